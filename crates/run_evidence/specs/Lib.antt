pub mod Tellable
pub mod Journals
pub mod Inside
