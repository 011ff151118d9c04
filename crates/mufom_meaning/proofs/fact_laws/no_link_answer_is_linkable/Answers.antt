use Rattle.mufom_meaning.proofs.facts.Linkable.{no_link_answer_is_linkable}
use Rattle.mufom_meaning.proofs.fact_laws.no_link_answer_is_linkable.Goals as goal

pub returns : goal.returns
returns c = no_link_answer_is_linkable
