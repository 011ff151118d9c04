pub mod Files
pub mod Names
pub mod Reading
pub mod Results
pub mod Stops
pub mod Contents
pub mod Laws
