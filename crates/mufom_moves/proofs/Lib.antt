pub mod ShiftLaws
pub mod PieceLaws
pub mod RunLaws
pub mod JoinLaws
pub mod OrderLaws
pub mod LoadMaps
