pub mod Marks
pub mod FirstFound
