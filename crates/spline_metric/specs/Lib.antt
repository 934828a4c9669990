pub mod Metric
pub mod Xyz
