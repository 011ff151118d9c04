pub mod Names
pub mod Entries
pub mod Listings
pub mod Reading
pub mod Written
pub mod Laws
