pub mod LineLaws
pub mod LengthLaws
