use Rattle.mufom_stages.proofs.Kept.{stages-keep-links}
use Rattle.mufom_stages.proofs.laws.stages_keep_links.Goals as goal

pub returns : goal.returns
returns c = stages-keep-links
