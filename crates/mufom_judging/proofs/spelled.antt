-- A module's file is a sound prefix, record by record and part by part.
pub mod Begin
pub mod Walk
pub mod Header
pub mod Parts
pub mod Plain
pub mod Entries
pub mod Loads
pub mod Kept
pub mod Blocks
pub mod Offsets
pub mod File
pub mod Prefix
pub mod Judged
