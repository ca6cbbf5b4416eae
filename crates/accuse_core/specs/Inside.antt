-- What only code and proofs cite.
pub mod Tracking
pub mod Watching
