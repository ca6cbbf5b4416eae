pub mod Decisions
pub mod Inside
