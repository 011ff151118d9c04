pub mod MakingLaws
pub mod WritingLaws
pub mod HelpLaws
pub mod DoesLaws
pub mod AnswerLaws
pub mod OtherLaws
