pub mod Predicates
pub mod RowAxioms
pub mod Inside
