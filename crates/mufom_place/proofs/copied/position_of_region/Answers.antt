use Rattle.std.proofs.Common.{◌∙◌}
use Rattle.mufom_place.proofs.FillingLemmas.{position-named}
use Rattle.mufom_place.proofs.copied.position_of_region.Goals as goal

pub returns-clause-position : goal.returns-clause-position
returns-clause-position c = c.first_named.ensures.position ∙ position-named c.args.name.now c.args.regions.now
