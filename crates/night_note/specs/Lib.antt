pub mod Note
pub mod NoteLaws
pub mod Notes
