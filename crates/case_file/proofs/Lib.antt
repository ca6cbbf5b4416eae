pub mod InputLaws
pub mod RowLaws
pub mod ListLaws
pub mod CaseLaws
pub mod ReadingLaws
pub mod IncoherenceLaws
