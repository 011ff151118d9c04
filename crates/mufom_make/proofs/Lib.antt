mod Worked
pub mod ModuleLaws
pub mod ListLaws
pub mod LinkLaws
pub mod RunLaws
pub mod PlanLaws
pub mod Rising
pub mod PlaceLaws
pub mod WalkLaws
pub mod NameLaws
pub mod NoFactLaws
