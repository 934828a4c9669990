pub mod RowNumbers
pub mod MaskCheck
