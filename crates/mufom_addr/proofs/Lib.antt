pub mod EntriesLemmas
pub mod GreatestLaws
pub mod ItemLaws
mod Rows
pub mod SearchLaws
