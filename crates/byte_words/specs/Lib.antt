pub mod Bytes
pub mod Lists
pub mod Fronts
pub mod Faults
