pub mod Decimal
pub mod DecimalTexts
pub mod Order
pub mod Inside
