pub mod MarksLemmas
pub mod Balance
pub mod Rebuilt
pub mod NameCounts
pub mod Closed
