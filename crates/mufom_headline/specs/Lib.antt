pub mod ReadBack
pub mod Kept
pub mod Linking
pub mod Later
pub mod Headline
pub mod Texts
