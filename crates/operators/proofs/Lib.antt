pub mod Grants
pub mod Wishes
pub mod Worked
