pub mod Shapes
pub mod ShutOut
