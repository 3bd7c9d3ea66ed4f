pub mod Row
pub mod FirstBad
pub mod Marks
