pub mod Losses
pub mod FloorsDown
