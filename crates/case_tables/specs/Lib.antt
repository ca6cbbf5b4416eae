pub mod Keyed
pub mod Entries
pub mod Tables
pub mod Named
pub mod Inside
