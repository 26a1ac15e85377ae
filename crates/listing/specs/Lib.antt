pub mod Faults
pub mod Listings
pub mod Grammar
