pub mod Long
pub mod OutputLaws
pub mod QuietLines
pub mod RefusedLines
