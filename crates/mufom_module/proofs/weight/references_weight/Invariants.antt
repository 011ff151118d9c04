use Rattle.std.proofs.Common.{◌≡◌, take, sum_by}
use Rattle.mufom_module.specs.Weights.{capped, reference_weight}
use Rattle.mufom_module.proofs.weight.references_weight.Given as goal

abbrev pub invariant-loop-reference : goal.invariant-loop-reference
invariant-loop-reference l = l.total ≡ capped (sum_by reference_weight (take l.reference-index l.references))
