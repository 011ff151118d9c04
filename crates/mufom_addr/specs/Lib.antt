pub mod Entries
pub mod Greatest
pub mod AddressHit
pub mod Search
