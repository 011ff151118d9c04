-- What a reader returns for the chunks that it is fed.
pub mod Chunks
pub mod Complete
pub mod Feed
pub mod Short
pub mod Finish
