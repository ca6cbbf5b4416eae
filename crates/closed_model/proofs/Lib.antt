pub mod ListLaws
pub mod Stated
pub mod ModelLaws
pub mod SaidInterp
pub mod Numbering
pub mod EntryLaws
pub mod OrderLaws
pub mod SaidLaws
