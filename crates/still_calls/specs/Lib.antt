pub mod Statements
pub mod Words
pub mod Splines
pub mod Own
pub mod Written
pub mod Calls
pub mod Runs
pub mod Occurs
