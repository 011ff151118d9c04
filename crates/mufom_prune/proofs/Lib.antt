pub mod Reaching
pub mod RowLaws
pub mod Rows
mod NameSets
pub mod NeedLaws
pub mod RemainLaws
pub mod KeptLaws
pub mod PrunedPlaces
pub mod PrunedWeight
pub mod PrunedValid
mod Settled
mod Named
mod Commons
mod SameValues
mod LeftSteps
mod LeftReadings
pub mod Meaning
pub mod Single
