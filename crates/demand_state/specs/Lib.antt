pub mod Accepted
pub mod Fresh
pub mod Refusals
pub mod StoreRows
pub mod Lengths
pub mod StateWords
pub mod Keeps
pub mod Begun
