pub mod Answers
pub mod Asked
pub mod Bare
pub mod Certify
