use Rattle.std.proofs.Common.{◌≡◌, ℕ, ◌+◌, length}
use Rattle.mufom_module.specs.Weights.{capped}
use Rattle.mufom_located.specs.Weighed.{literals_weight}
use Rattle.mufom_located.proofs.weight.literals_weight.Given as goal

abbrev pub invariant-loop-rest : goal.invariant-loop-rest
invariant-loop-rest l = (taken : ℕ) × (l.total ≡ capped taken) × (taken + literals_weight l.rest ≡ literals_weight l.fn.bytes)

abbrev pub decreases-loop-rest : goal.decreases-loop-rest
decreases-loop-rest l = length l.rest
