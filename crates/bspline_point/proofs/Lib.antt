pub mod Curves
pub mod Straight
