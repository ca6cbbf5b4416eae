-- What only the code of this crate and its proofs cite.
pub mod Clashes
pub mod Rows
pub mod Saturated
