pub mod Marks
pub mod Tests
pub mod Meanings
pub mod Scans
pub mod Made
