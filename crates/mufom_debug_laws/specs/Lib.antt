pub mod Without
pub mod DebugLaws
pub mod LinkLaws
pub mod LocationLaws
pub mod FileLaws
pub mod PlannedLaws
