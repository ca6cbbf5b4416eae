pub mod Lines
pub mod Contents
pub mod Entries
pub mod HeaderSteps
pub mod BuiltIn
pub mod Headers
pub mod Heads
pub mod Inside
