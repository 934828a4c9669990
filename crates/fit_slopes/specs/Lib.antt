pub mod Akima
pub mod Slopes
pub mod Filled
pub mod Sizes
pub mod AkimaLaws
