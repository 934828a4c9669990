pub mod Fit
pub mod FitLaws
