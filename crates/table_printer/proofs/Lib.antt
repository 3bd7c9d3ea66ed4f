pub mod Turns
pub mod Held
