pub mod Lines
pub mod Nodes
pub mod Prefix
pub mod Says
pub mod Worked
