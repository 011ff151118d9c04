use Rattle.mufom_run_laws.proofs.Leaves.{links-alike}
use Rattle.mufom_run_laws.proofs.laws.links_make_no_difference.Goals as goal

pub returns : goal.returns
returns c = links-alike
