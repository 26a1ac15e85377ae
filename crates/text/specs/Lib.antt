pub mod Chains
pub mod Faults
pub mod Lines
pub mod Lists
pub mod Spelling
pub mod Looks
pub mod Tags
pub mod Numbered
