pub mod Checked
pub mod Agree
pub mod Worked
pub mod Answered
