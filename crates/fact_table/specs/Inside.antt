-- What only the code of this crate and its proofs cite.
pub mod Buckets
pub mod Chains
pub mod Cells
