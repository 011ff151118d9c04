-- The module that a location is written as.
pub mod Alone
pub mod Cells
pub mod Counts
pub mod Debug
pub mod Entries
pub mod Facts
pub mod Loads
pub mod Located
pub mod Marks
pub mod Places
pub mod Rows
pub mod Sound
pub mod Valid
pub mod Walk
pub mod Weight
