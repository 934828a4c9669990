pub mod CsvLaws
