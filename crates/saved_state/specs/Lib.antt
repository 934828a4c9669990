pub mod State
pub mod Asks
pub mod StateLaws
pub mod Checked
pub mod Axes
pub mod Walk
