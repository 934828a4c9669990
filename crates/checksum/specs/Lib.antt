pub mod Checksum
pub mod Pieces
