pub mod Curve
pub mod Binomials
pub mod Asked
