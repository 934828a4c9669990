pub mod Clean
pub mod Forms
pub mod CleanLaws
