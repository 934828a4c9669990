pub mod Reading
pub mod Readings
