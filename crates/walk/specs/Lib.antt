pub mod RowWalk
