pub mod Read
pub mod Scans
pub mod Readers
