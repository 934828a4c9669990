pub mod Bits
mod Remainder
