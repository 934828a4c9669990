pub mod LineText
pub mod Notice
pub mod CodeLaws
