pub mod Every
pub mod OneAnswer
pub mod Places
pub mod Runs
pub mod Safe
pub mod Judged
pub mod Laws
pub mod PlaceLaws
