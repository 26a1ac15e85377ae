pub mod Marks
pub mod Frames
pub mod Soundness
pub mod Completeness
