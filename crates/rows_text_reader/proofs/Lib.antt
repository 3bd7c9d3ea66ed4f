pub mod Content
pub mod Walking
pub mod Ordered
