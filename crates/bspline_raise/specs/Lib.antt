pub mod Climb
pub mod Fours
