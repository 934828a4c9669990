pub mod Tolerance
