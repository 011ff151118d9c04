pub mod Kept
pub mod FirstNames
pub mod Linked
pub mod OldStages
pub mod Renamed
