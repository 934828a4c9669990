pub mod Plans
pub mod Words
pub mod Frames
pub mod Planning
