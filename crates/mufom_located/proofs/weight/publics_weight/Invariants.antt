use Rattle.std.proofs.Common.{◌≡◌, map, take, sum_by}
use Rattle.mufom_module.specs.Weights.{capped, public_weight}
use Rattle.mufom_meaning.specs.Absolute.{absolute_public}
use Rattle.mufom_located.proofs.weight.publics_weight.Given as goal

abbrev pub invariant-loop-public : goal.invariant-loop-public
invariant-loop-public l = l.total ≡ capped (sum_by public_weight (map absolute_public (take l.public-index l.publics)))
