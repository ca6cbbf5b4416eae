pub mod Finishing
pub mod Inside
