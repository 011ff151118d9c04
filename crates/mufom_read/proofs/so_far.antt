-- What the code keeps of the entries so far, and what a record does to it.
pub mod FollowLaws
pub mod SectionSteps
pub mod SectionLaws
pub mod SectionFaults
pub mod InPlace
pub mod ReferenceSteps
pub mod PublicSteps
pub mod MarkSteps
pub mod PublicLaws
pub mod PublicFaults
pub mod LoadLaws
pub mod LoadsFold
pub mod DebugSteps
pub mod Contents
