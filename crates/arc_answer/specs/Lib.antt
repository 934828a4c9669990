pub mod Arc
pub mod Samples
