pub mod DigitLaws
pub mod PowerLaws
pub mod DecimalLaws
pub mod ConfidenceLaws
pub mod OrderLaws
