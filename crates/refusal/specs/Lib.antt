pub mod Refusals
pub mod Checked
pub mod Agree
