pub mod Walks
pub mod Lefts
pub mod Asks
pub mod Forms
pub mod Points
pub mod Counting
pub mod Writing
