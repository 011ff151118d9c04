pub mod Pages
pub mod Topics
