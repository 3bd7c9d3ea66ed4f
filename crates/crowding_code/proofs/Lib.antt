pub mod AllRows
pub mod Settled
