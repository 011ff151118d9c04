use Rattle.mufom_stages.proofs.OldStages.{stages-are-links}
use Rattle.mufom_stages.proofs.laws.stages_are_links.Goals as goal

pub returns : goal.returns
returns c = stages-are-links
