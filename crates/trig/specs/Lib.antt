pub mod Trig
pub mod Remainder
