pub mod Points
pub mod Gathers
pub mod Curve
