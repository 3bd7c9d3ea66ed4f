-- Laws for the proofs of crowding_search's functions. Assumes nothing.
pub mod Short
