pub mod Asks
pub mod Widths
pub mod Gathers
pub mod Curves
