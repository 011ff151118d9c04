pub mod PartLaws
pub mod WorkLaws
pub mod PrepareLaws
