pub mod Slices
pub mod Worked
pub mod Prefix
