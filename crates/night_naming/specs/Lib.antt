pub mod Naming
pub mod Pieces
