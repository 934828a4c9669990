pub mod Pen
pub mod Drawing
pub mod DrawLaws
