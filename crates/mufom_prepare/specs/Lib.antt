pub mod Locations
pub mod Ready
pub mod Prepared
