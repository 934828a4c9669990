pub mod StarredRows
