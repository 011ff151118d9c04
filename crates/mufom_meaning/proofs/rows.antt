-- The definitions computed on concrete modules, and wrong links refuted.
pub mod Built
pub mod Commons
pub mod Counterexamples
pub mod Debug
pub mod Facts
pub mod Locations
pub mod Names
