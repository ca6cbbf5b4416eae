-- What only the code of this crate and its proofs cite.
pub mod Named
pub mod RowNumbers
pub mod DecidedBooks
