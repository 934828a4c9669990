pub mod Channels
pub mod Gathers
pub mod Keeps
pub mod ByIndex
pub mod Append
pub mod Flat
