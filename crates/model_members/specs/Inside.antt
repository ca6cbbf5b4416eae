-- What only the code of this crate and its proofs cite.
pub mod Keyed
pub mod Pairs
pub mod Sets
