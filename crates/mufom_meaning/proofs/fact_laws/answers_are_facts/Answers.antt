use Rattle.mufom_meaning.proofs.facts.AllAnswers.{answers_are_facts}
use Rattle.mufom_meaning.proofs.fact_laws.answers_are_facts.Goals as goal

pub returns : goal.returns
returns c = answers_are_facts
