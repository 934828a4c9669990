pub mod Pushed
pub mod PushLaws
pub mod Stored
pub mod StoredLaws
