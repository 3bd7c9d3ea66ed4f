pub mod Load
pub mod Programs
pub mod Replies
pub mod Answers
