pub mod Accepted
pub mod Prefix
pub mod Worked
pub mod Meaning
pub mod Padding
pub mod Written
