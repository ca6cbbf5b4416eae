pub mod FieldLaws
pub mod RecordLaws
pub mod ReadLaws
pub mod TableLaws
pub mod UnitLaws
pub mod RecordsOnce
pub mod RowsOnce
pub mod OneAnswer
