pub mod Checking
pub mod Unfed
pub mod FedAnswers
