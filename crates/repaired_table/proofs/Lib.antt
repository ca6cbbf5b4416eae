pub mod WriteLaws
pub mod SwapLaws
pub mod HeadAgain
pub mod Again
