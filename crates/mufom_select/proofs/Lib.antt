pub mod ChoiceLaws
pub mod Chosen
pub mod IndexLaws
pub mod Least
