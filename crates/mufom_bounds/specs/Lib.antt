pub mod Bounded
pub mod PlanBounds
pub mod BoundLaws
