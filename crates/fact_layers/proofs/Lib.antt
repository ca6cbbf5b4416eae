pub mod Parts
pub mod Layered
pub mod Copied
pub mod Growing
pub mod Over
