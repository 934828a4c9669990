pub mod Raw
pub mod Puts
pub mod SampleLaws
