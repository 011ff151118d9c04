pub mod Appended
pub mod Computed
