pub mod Places
pub mod Passing
pub mod Examples
pub mod Verdicts
pub mod Answering
pub mod Turns
