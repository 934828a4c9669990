pub mod Before
pub mod BeforeLaws
