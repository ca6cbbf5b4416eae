pub mod Ranges
pub mod Directions
