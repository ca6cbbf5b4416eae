pub mod Repaired
pub mod Inside
