pub mod Models
pub mod Readers
