pub mod Bytes
pub mod Literals
pub mod Plain
pub mod Reading
pub mod Inside
pub mod Writing
