pub mod Reached
pub mod Kept
pub mod Pruned
pub mod Marked
pub mod Refusals
pub mod Underway
pub mod Steps
pub mod Meaning
