-- What only code and proofs cite.
pub mod Lines
