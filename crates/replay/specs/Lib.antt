pub mod Log
pub mod Replays
pub mod Answers
pub mod Board
