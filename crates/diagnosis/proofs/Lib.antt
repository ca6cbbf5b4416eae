pub mod RowLaws
pub mod JoinLaws
pub mod ShareLaws
pub mod PartLaws
pub mod Sending
