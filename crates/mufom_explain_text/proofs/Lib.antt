pub mod ArgumentLaws
pub mod ExplainLaws
pub mod ExplainReading
pub mod ToldLaws
