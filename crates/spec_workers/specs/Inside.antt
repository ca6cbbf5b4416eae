-- What only the code of this crate and its proofs cite.
pub mod Ahead
pub mod Asked
pub mod Fronts
pub mod Grown
pub mod Stages
pub mod Steps
