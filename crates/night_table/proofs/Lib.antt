pub mod Writing
pub mod Taking
