pub mod Bits
pub mod Codes
pub mod Row
pub mod Masks
pub mod BitOps
pub mod BitWalk
pub mod Tested
