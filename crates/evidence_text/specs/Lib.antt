pub mod EvidenceText
pub mod Reading
pub mod Inside
