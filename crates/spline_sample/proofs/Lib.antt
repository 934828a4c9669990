pub mod Leaves
pub mod Made
