pub mod Stored
pub mod Turns
