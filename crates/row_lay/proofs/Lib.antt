pub mod Heads
pub mod Clearing
pub mod Laying
