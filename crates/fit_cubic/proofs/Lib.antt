pub mod Cubics
pub mod Knots
