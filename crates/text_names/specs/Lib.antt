pub mod Text
pub mod Place
pub mod Prefixes
pub mod Names
pub mod Inside
