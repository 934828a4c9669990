pub mod Standing
pub mod Together
