pub mod Over
pub mod Asks
pub mod LayLaws
