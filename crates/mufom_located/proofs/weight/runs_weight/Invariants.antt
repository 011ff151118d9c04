use Rattle.std.proofs.Common.{◌≡◌, ℕ, take, sum_by}
use Rattle.mufom_module.specs.Weights.{capped, load_weight}
use Rattle.mufom_meaning.specs.Absolute.{loads_between}
use Rattle.mufom_located.proofs.weight.runs_weight.Given as goal

abbrev pub invariant-loop-run : goal.invariant-loop-run
invariant-loop-run l = (section : ℕ) → l.total ≡ capped (sum_by load_weight (loads_between section (take l.run-index l.runs) l.from l.to))
