pub mod Worked
pub mod Prefix
pub mod Mean
pub mod Replies
