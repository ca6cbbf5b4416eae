pub mod Meaning
pub mod Incoherent
pub mod Cases
