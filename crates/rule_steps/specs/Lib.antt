pub mod Counted
pub mod Growing
pub mod Answering
pub mod RowAxioms
pub mod Inside
