pub mod Owning
pub mod Running
pub mod Recalling
