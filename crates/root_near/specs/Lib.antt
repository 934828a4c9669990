pub mod Nearest
pub mod OneNearest
pub mod Squares
