pub mod States
pub mod Worlds
pub mod Models
pub mod Words
pub mod Scans
