pub mod RunLaws
pub mod SafeLaws
