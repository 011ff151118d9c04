pub mod Loops
pub mod Marking
pub mod Placing
pub mod Shorter
pub mod Rows
pub mod DebugRows
pub mod LoadRows
pub mod HeaderRows
pub mod Indexed
pub mod Laying
pub mod SectionRecords
pub mod NameRecords
pub mod DebugRecords
pub mod LoadRecords
pub mod CutFile
pub mod Fitting
pub mod Texts
pub mod StatedDebug
pub mod Stated
pub mod StatedLoads
pub mod StatedSections
pub mod StatedNames
pub mod Naming
pub mod Known
pub mod NamingNames
pub mod NamingDebug
pub mod NamingLoads
pub mod NamingFile
mod RunsOfBytes
mod RangeLaws
mod RawLaws
