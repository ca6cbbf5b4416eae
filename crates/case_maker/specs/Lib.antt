pub mod MadeCase
pub mod Inside
