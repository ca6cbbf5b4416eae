pub mod Valid
pub mod Names
pub mod Left
pub mod NoRows
pub mod Refused
pub mod Bare
pub mod Refusals
