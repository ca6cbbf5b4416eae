-- What only the code of this crate and its proofs cite.
pub mod Parts
