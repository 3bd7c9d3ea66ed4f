pub mod Certified
pub mod Prefix
