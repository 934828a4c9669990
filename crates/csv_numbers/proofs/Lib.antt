pub mod Again
pub mod Forms
pub mod Lines
