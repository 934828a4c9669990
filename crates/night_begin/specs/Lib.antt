pub mod Begin
pub mod Starts
