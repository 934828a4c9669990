pub mod Words
pub mod Counting
pub mod WordLaws
