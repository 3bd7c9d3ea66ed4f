pub mod Tails
pub mod Chains
pub mod Linking
pub mod Counting
pub mod Visiting
