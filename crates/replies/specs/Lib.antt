pub mod Lines
pub mod Replying
pub mod Programs
pub mod Plans
