pub mod Splits
pub mod Table
pub mod Working
