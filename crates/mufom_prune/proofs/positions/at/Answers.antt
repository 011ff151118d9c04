use Rattle.std.proofs.Common.{sym}
use Rattle.mufom_prune.proofs.RemainLaws.{past_default}
use Rattle.mufom_prune.proofs.positions.at.Goals as goal

pub returns-in-None : goal.returns-in-None
returns-in-None c = past_default c.args.positions.now c.args.place 0 (sym c.in-None.ensures)
