-- Partial links: what moves where, and that a link means what its list means.
pub mod Composed
pub mod Groups
pub mod JoinedEntries
pub mod JoinedPlaces
pub mod JoinedSingle
pub mod JoinedValid
pub mod JoinedWeight
pub mod LinkedLoads
pub mod Moved
pub mod MovedSteps
pub mod Needs
pub mod Renamed
pub mod SameLocation
pub mod Selected
pub mod Settings
pub mod Stages
pub mod Staging
