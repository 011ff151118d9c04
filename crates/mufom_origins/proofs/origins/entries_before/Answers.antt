use Rattle.mufom_origins.proofs.PlaceLaws.{before-at}
use Rattle.mufom_origins.proofs.origins.entries_before.Goals as goal

pub returns-else-position-eq0 : goal.returns-else-position-eq0
returns-else-position-eq0 c = before-at c.args.ends.now c.args.position c.if-position-eq0.false c.requires
