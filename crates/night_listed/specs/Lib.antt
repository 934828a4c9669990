pub mod Listed
pub mod Lines
