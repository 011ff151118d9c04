pub mod Pieces
pub mod Places
pub mod Reads
pub mod Infix
pub mod Errors
pub mod Loosely
