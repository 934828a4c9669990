pub mod Steps
pub mod StepLaws
pub mod Deeds
pub mod DeedLaws
pub mod Turns
pub mod TurnLaws
pub mod Run
pub mod RunLaws
