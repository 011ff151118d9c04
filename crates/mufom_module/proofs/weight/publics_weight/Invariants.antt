use Rattle.std.proofs.Common.{◌≡◌, take, sum_by}
use Rattle.mufom_module.specs.Weights.{capped, public_weight}
use Rattle.mufom_module.proofs.weight.publics_weight.Given as goal

abbrev pub invariant-loop-public : goal.invariant-loop-public
invariant-loop-public l = l.total ≡ capped (sum_by public_weight (take l.public-index l.publics))
