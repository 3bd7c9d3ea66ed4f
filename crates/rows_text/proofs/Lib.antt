pub mod Made
pub mod Stages
pub mod Drafted
pub mod Enough
pub mod Worked
