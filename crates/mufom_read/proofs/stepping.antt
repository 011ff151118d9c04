-- What a step does to a prefix, as the code keeps it.
pub mod PrefixLaws
pub mod Add
pub mod Judge
pub mod Step
pub mod Place
pub mod LocationMoves
pub mod PartEnd
pub mod PartBytes
pub mod Raw
pub mod Take
