pub mod Entries
pub mod Seats
pub mod Passes
pub mod Inside
