pub mod Emitted
pub mod EmittedLaws
