pub mod Variables
pub mod Walks
pub mod WeightLaws
pub mod Valid
pub mod ItemWeights
pub mod MadeLemmas
pub mod SpelledLaws
pub mod OneModule
pub mod GnuLaws
pub mod Cutting
mod Worked
mod WorkedFile
mod WorkedAbsolute
mod WorkedProgram
mod WorkedLibrary
mod WorkedEmpty
mod WorkedDebug
mod WorkedDebugFile
mod WorkedBad
pub mod EntryCounts
