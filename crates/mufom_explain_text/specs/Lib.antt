pub mod Told
pub mod Explains
