pub mod RecordSizes
pub mod BlockKinds
pub mod Stable
mod Worked
pub mod ended
pub mod spelled
pub mod weighing
pub mod judged
