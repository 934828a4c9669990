pub mod RawBlocks
pub mod Puts
pub mod RawLaws
