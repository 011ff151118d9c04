pub mod Apps
pub mod Counts
pub mod Refusals
pub mod TreeLaws
pub mod TreeOfWords
pub mod Sound
pub mod CountLaws
mod Worked
mod WorkedGroups
mod Hexadecimal
mod HelpLaws
mod WorkedFaulty
pub mod FoundLaws
