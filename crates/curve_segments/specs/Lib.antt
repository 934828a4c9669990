pub mod Stretches
pub mod Lefts
pub mod Asks
