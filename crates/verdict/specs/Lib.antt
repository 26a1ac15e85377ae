pub mod Faults
pub mod Lines
pub mod Verdicts
pub mod Grammar
pub mod Slips
pub mod Statements
pub mod Drafts
