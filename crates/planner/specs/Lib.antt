pub mod Planning
pub mod Answers
pub mod Writing
pub mod SevenCabinets
