pub mod Bases
pub mod Facts
pub mod Entries
pub mod Packing
pub mod Copies
pub mod Filling
pub mod CopyLaws
