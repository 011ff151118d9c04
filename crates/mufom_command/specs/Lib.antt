pub mod TextLines
pub mod PutOut
pub mod RunParts
pub mod Contract
