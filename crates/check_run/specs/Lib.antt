pub mod Files
pub mod Verdicts
pub mod Lines
pub mod Check
pub mod Inside
