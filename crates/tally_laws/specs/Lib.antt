pub mod Jobs
pub mod Statements
pub mod ListLaws
pub mod Turned
pub mod Worked
