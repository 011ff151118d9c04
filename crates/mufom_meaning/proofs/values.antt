-- When expressions have values.
pub mod Causes
pub mod Ends
pub mod Enough
pub mod Lacks
pub mod Monotone
pub mod Named
pub mod ValueLaws
pub mod Valued
