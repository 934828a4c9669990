pub mod AgainLaws
