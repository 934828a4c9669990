pub mod Tried
pub mod TriedLaws
