use Rattle.mufom_run_laws.proofs.Leaves.{stages-came-by-links}
use Rattle.mufom_run_laws.proofs.laws.stages_came_by_links.Goals as goal

pub returns : goal.returns
returns c = stages-came-by-links
