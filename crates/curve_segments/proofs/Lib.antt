pub mod Segmenting
pub mod Hinting
