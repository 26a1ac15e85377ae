pub mod Lists
pub mod Failures
pub mod Models
