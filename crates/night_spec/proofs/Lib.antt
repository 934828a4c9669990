pub mod TryLaws
