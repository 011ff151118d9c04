pub mod OrderLaws
pub mod RoomLaws
pub mod PointLaws
pub mod KeyLaws
pub mod CopyRegions
pub mod ShownLaws
pub mod OrderedLaws
pub mod LocatedLaws
pub mod UnusedLaws
pub mod SpotLaws
pub mod NearLaws
mod Rows
