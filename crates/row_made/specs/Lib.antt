pub mod Made
pub mod Asks
pub mod MadeLaws
pub mod Making
