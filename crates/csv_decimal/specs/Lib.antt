pub mod Decimal
pub mod Sticky
pub mod Near
pub mod Values
pub mod Widths
