pub mod Located
pub mod Opened
pub mod Weighed
