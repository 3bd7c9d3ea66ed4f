pub mod Layers
pub mod Answers
pub mod Asked
pub mod Meaning
pub mod Written
