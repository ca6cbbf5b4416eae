pub mod Outcomes
pub mod Run
pub mod Made
pub mod Commands
pub mod Inside
