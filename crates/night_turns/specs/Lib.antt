pub mod Steps
pub mod StepLaws
pub mod Turns
pub mod TurnLaws
