pub mod Sound
pub mod More
pub mod Followed
pub mod Alone
pub mod Found
pub mod Closed
