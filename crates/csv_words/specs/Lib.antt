pub mod Text
pub mod Words
pub mod Packed
pub mod Chars
pub mod Table
pub mod Seeks
pub mod Codes
