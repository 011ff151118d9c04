use Rattle.std.proofs.Common.{◌∙◌}
use Rattle.mufom_place.proofs.FillingLemmas.{position-named}
use Rattle.mufom_locating.proofs.ends.region_named.Goals as goal

pub returns-clause-position : goal.returns-clause-position
returns-clause-position c = c.first_named.ensures.position ∙ position-named c.args.name.now c.args.regions.now
