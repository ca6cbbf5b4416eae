pub mod Marks
pub mod Events
pub mod Seen
pub mod Journal
pub mod Sound
pub mod Inside
