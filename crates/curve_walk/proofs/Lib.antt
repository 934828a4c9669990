pub mod Joining
pub mod Remembering
