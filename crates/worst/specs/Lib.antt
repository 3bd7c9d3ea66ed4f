pub mod Worst
pub mod Answers
pub mod Records
pub mod Searches
pub mod Asked
