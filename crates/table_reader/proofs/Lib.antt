pub mod Content
pub mod Found
pub mod Turns
pub mod Walking
