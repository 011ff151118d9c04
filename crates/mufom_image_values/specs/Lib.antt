pub mod Names
pub mod Resolutions
pub mod Graph
pub mod Circles
pub mod Surroundings
pub mod Evaluated
