-- What only the code of this crate and its proofs cite.
pub mod Tables
pub mod Stages
pub mod Plain
