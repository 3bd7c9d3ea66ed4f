pub mod Game
pub mod Rounds
pub mod Answers
pub mod States
pub mod Asked
