pub mod Figures
pub mod Curve
