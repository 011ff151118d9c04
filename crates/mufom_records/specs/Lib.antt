pub mod Fields
pub mod Layouts
pub mod Reading
pub mod Faults
pub mod Parts
