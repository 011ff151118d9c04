pub mod Staged
pub mod Kept
pub mod Later
pub mod Linking
pub mod LinkedFiles
pub mod Maps
pub mod Headline
mod Places
pub mod ReadBack
mod TextMade
pub mod Texts
pub mod Built
