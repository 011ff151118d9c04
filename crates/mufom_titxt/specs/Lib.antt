pub mod Lines
pub mod Texts
pub mod Written
pub mod TextModules
pub mod Scans
pub mod Reading
pub mod Twice
pub mod FirstErrors
