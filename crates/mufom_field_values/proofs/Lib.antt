pub mod WalkLaws
pub mod FindLaws
pub mod LineLaws
mod Rows
