pub mod Loads
pub mod Names
pub mod Commons
pub mod Document
pub mod PlanText
pub mod Symbols
pub mod SoundPlans
