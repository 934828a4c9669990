pub mod Writer
pub mod Trying
pub mod Texts
pub mod Passing
pub mod Writing
