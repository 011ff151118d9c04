pub mod FlatLaws
pub mod ListLaws
pub mod PlaceLaws
pub mod WordLaws
mod LeftLaws
