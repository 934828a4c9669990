pub mod Tolerances
pub mod Fields
pub mod FieldLaws
