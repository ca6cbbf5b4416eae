pub mod ClosedTables
pub mod Models
pub mod Inside
