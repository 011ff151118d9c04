pub mod KeyLaws
pub mod LineLaws
mod Rows
