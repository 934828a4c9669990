pub mod Table
pub mod Back
pub mod Lines
