pub mod Work
pub mod Linked
pub mod Refusals
pub mod Groups
pub mod Refused
pub mod Laws
