pub mod Shifts
pub mod Joined
