pub mod Answer
pub mod Push
pub mod Close
pub mod CloseLaws
