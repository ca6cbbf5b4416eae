pub mod Books
pub mod Answers
pub mod Inside
