pub mod Try
