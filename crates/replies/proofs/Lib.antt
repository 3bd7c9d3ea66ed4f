pub mod Replying
pub mod Planned
pub mod Slices
pub mod Padding
pub mod Worked
pub mod Programs
pub mod Prefix
