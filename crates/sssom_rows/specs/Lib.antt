pub mod Records
pub mod Columns
pub mod Ids
pub mod Tables
pub mod Faults
pub mod Inside
