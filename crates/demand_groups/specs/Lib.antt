pub mod Group
pub mod InRange
pub mod Written
