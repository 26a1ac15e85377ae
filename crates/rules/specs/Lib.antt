pub mod Rules
pub mod Written
pub mod Theorems
