pub mod ArcSame
pub mod Own
pub mod OwnLaws
pub mod Few
