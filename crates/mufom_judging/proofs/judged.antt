-- Each stream has exactly one judgment, and an error stays the same in longer streams.
pub mod PrefixesOne
pub mod Stays
pub mod PrefixJudged
