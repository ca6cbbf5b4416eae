pub mod Bytes
pub mod Ends
pub mod NextToken
pub mod Forms
pub mod Texts
