pub mod Levels
pub mod Grow
pub mod Growing
pub mod Held
