pub mod Lookups
pub mod PlaceLaws
pub mod PrefixLaws
pub mod NameLaws
pub mod StayLaws
pub mod AscentLaws
