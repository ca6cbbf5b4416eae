-- What only the code of this crate and its proofs cite.
pub mod Numbers
pub mod Rules
pub mod Found
pub mod Seen
