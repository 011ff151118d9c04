pub mod RunLaws
pub mod LoadLaws
pub mod WeightLaws
