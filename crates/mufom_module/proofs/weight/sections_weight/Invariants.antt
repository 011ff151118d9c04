use Rattle.std.proofs.Common.{◌≡◌, take, sum_by}
use Rattle.mufom_module.specs.Weights.{capped, section_weight}
use Rattle.mufom_module.proofs.weight.sections_weight.Given as goal

abbrev pub invariant-loop-section : goal.invariant-loop-section
invariant-loop-section l = l.total ≡ capped (sum_by section_weight (take l.section-index l.sections))
