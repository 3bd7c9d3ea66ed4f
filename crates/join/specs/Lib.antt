pub mod Lcm
pub mod Join
pub mod Answers
pub mod Estate
