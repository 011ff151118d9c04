-- What the code keeps of a sound prefix that has ended is the module that the prefix states.
pub mod LoadsWhole
pub mod DebugKept
pub mod Built
