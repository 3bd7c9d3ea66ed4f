pub mod Binomials
pub mod Curve
pub mod Worked
