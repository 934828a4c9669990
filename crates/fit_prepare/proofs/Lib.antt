pub mod Keeps
pub mod Readies
