pub mod Raising
pub mod Stepping
pub mod Climbing
pub mod Gentle
pub mod Lowering
pub mod Both
