pub mod NotingLaws
pub mod LineLaws
pub mod NamingLaws
pub mod ToldLaws
pub mod UndefinedLaws
pub mod RegionLaws
pub mod LinkLaws
pub mod PlacedLaws
pub mod WalkedLaws
pub mod AlikeLaws
mod Rows
