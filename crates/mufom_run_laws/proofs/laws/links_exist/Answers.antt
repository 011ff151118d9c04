use Rattle.mufom_run_laws.proofs.Links.{links-exist}
use Rattle.mufom_run_laws.proofs.laws.links_exist.Goals as goal

pub returns : goal.returns
returns c = links-exist
