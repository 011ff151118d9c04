-- Facts and answers, and that a partial link changes none of them.
pub mod Agreed
pub mod Alike
pub mod AllAnswers
pub mod Answers
pub mod Chains
pub mod Cycles
pub mod FollowsLink
pub mod GroupLaws
pub mod LinkAgreed
pub mod LinkFacts
pub mod LinkFactsLinked
pub mod Linkable
pub mod Linked
pub mod SameWalk
pub mod StepCounts
pub mod WalkAnswers
