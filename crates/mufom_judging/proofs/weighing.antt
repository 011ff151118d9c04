-- What a file states weighs at most ten times the file.
pub mod Trees
pub mod Records
pub mod Sums
pub mod Entries
pub mod Names
pub mod Loads
pub mod Files
