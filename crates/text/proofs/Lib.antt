pub mod Undoing
pub mod Lists
pub mod Cuts
pub mod Joins
pub mod Tags
pub mod Looking
pub mod Endings
pub mod Outcomes
