pub mod Grew
pub mod GrewLaws
