pub mod Cells
pub mod Taking
pub mod Parts
