pub mod Grammar
pub mod Quotients
