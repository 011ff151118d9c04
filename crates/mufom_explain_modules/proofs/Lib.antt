pub mod KeptFlat
pub mod ToldEnds
