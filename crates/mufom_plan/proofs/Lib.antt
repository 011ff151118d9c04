pub mod DocumentLemmas
pub mod IndexLemmas
pub mod PlanLemmas
pub mod SymbolLemmas
pub mod WorkedPlans
