pub mod Centre
pub mod Types
