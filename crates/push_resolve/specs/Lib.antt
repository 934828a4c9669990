pub mod Blocks
pub mod Asks
pub mod Resolved
pub mod BlockLaws
