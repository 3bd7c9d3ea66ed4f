pub mod Fits
pub mod Values
