pub mod Words
pub mod Writing
pub mod Brackets
pub mod Texts
pub mod Inside
