pub mod Ordering
pub mod Head
