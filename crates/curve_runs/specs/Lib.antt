pub mod Lefts
pub mod Asks
pub mod Draws
