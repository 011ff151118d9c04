pub mod Placements
pub mod Refusals
pub mod Rooms
pub mod Stages
pub mod Entries
