pub mod Fields
pub mod Joined
pub mod Lines
pub mod Layered
pub mod Writing
pub mod Page
pub mod Worked
