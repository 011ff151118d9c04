pub mod Composing
pub mod Spanning
pub mod KeptNames
pub mod KeptFiles
mod Modest
