pub mod RunLaws
pub mod MakeLaws
pub mod Exist
pub mod Leaves
pub mod Results
