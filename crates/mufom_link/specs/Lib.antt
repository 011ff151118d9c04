pub mod Conditions
pub mod Joining
pub mod Linking
pub mod Publics
pub mod References
pub mod Refusals
pub mod Renaming
