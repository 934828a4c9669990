pub mod Write
pub mod Out
pub mod OutLaws
pub mod Figures
pub mod Writers
