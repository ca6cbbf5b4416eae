pub mod Saying
pub mod Rules
pub mod Theories
pub mod Following
pub mod Truth
pub mod Worked
pub mod Closing
