pub mod Groups
pub mod Sizes
pub mod Places
pub mod SizeLaws
