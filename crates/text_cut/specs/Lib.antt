pub mod Cut
pub mod Seek
pub mod CutLaws
