pub mod Tasks
pub mod Sound
pub mod Inputs
pub mod Reading
pub mod Ends
pub mod Calls
pub mod FilesRead
pub mod InputsRead
