pub mod Low
pub mod LowLaws
