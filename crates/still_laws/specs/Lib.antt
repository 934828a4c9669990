pub mod Statements
pub mod Straight
pub mod Rows
pub mod Joined
pub mod Lone
