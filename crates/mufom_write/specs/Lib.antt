pub mod Chains
pub mod Holding
pub mod HoldingChains
pub mod Writing
pub mod Raw
pub mod Range
pub mod Laws
