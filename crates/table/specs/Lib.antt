pub mod Faults
pub mod Rows
pub mod Tables
pub mod Models
pub mod Grammar
pub mod Jobs
