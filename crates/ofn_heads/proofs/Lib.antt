pub mod Found
pub mod PieceLaws
