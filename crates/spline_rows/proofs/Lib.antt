pub mod Leaves
pub mod Backward
pub mod Spreading
