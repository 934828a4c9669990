pub mod Rowing
pub mod Draw
pub mod Asks
