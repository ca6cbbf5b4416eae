pub mod Rows
pub mod Items
pub mod Valid
pub mod Shown
