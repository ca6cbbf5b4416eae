pub mod Cases
pub mod Incoherence
pub mod Inside
