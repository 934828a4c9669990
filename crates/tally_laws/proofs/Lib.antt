pub mod Adding
pub mod Counts
pub mod Cut
pub mod Figures
pub mod Firsts
pub mod Full
pub mod Holds
pub mod JobLaws
