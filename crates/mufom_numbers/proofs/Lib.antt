pub mod Values
pub mod SpellingLaws
pub mod StringLaws
pub mod ShortestLaws
pub mod LengthLaws
pub mod Choices
