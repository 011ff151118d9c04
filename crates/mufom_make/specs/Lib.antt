pub mod Generated
pub mod Links
