pub mod GroupLaws
pub mod CollectLaws
pub mod Members
pub mod NamedLaws
pub mod EntryLaws
pub mod OperandLaws
pub mod JoinLaws
pub mod HeldLaws
