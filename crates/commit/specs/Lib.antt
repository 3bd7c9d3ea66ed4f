pub mod Asking
pub mod Asked
pub mod Committing
