pub mod Pack
pub mod Answers
pub mod SevenCabinets
