pub mod RoundTrip
pub mod RowForms
