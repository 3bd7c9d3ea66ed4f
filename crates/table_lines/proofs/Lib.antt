pub mod Looking
pub mod DigitOf
pub mod Turns
pub mod Splitting
