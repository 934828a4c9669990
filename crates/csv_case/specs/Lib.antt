pub mod Case
