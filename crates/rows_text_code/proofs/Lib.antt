pub mod Making
pub mod Replying
