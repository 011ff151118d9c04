pub mod Layout
pub mod Numbers
pub mod PlanSymbols
pub mod Planned
pub mod PlanLaws
pub mod Shown
pub mod ReadPlans
