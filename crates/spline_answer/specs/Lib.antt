pub mod Runs
pub mod Emission
pub mod Held
pub mod Words
