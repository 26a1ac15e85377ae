pub mod Names
pub mod Spelling
pub mod Literals
pub mod Models
