pub mod Arc
pub mod Types
