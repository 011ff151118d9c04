-- That locations and selections exist and are single.
pub mod CellHome
pub mod CellRuns
pub mod ChangedMarks
pub mod Exists
pub mod OwnAddresses
pub mod SelectionSingle
pub mod Single
