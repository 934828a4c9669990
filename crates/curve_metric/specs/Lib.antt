pub mod Below
pub mod Ends
pub mod Metric
pub mod Points
pub mod Walk
pub mod Widest
pub mod Written
