use Rattle.mufom_stages.proofs.Kept.{stages-keep-link-facts}
use Rattle.mufom_stages.proofs.laws.stages_keep_link_facts.Goals as goal

pub returns : goal.returns
returns c = stages-keep-link-facts
