pub mod Figure
pub mod Feeders
pub mod Placement
pub mod Units
pub mod Answers
pub mod SevenCabinets
pub mod Meaning
pub mod Asked
