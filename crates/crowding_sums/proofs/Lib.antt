pub mod Leaving
pub mod Left
pub mod Turning
pub mod Enough
pub mod Kept
