-- What only the code of this crate and its proofs cite.
pub mod Codes
pub mod Elements
pub mod Entries
pub mod Ordered
