pub mod Opened
pub mod OpenedLaws
