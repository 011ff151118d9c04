use Rattle.std.proofs.Common.{◌≡◌, take, sum_by}
use Rattle.mufom_module.specs.Weights.{capped, load_weight}
use Rattle.mufom_module.proofs.weight.loads_weight.Given as goal

abbrev pub invariant-loop-load : goal.invariant-loop-load
invariant-loop-load l = l.total ≡ capped (sum_by load_weight (take l.load-index l.loads))
