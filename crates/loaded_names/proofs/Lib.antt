pub mod Bytes
pub mod Written
pub mod Tokens
pub mod Mentions
pub mod Starts
pub mod Documents
pub mod LeftOut
