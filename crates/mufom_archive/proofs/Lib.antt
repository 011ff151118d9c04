pub mod NameLaws
pub mod EntryLaws
pub mod StepLaws
pub mod ListingLaws
pub mod InsideLaws
pub mod WrittenLaws
pub mod OnlyLaws
