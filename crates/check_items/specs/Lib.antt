pub mod Firsts
pub mod Bad
pub mod Inside
