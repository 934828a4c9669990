pub mod PathText
pub mod PathLaws
