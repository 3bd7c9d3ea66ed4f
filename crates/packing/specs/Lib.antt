pub mod Rows
pub mod Floors
pub mod Failures
pub mod Load
pub mod Answers
pub mod SevenCabinets
