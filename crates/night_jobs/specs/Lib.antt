pub mod Jobs
pub mod Lots
