pub mod Loads
pub mod Faults
pub mod Folders
pub mod Inside
