-- What only the code of this crate and its proofs cite.
pub mod Hashes
pub mod SameNodes
pub mod Numbering
pub mod InTrees
pub mod Tests
