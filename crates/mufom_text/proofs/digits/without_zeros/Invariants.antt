use Rattle.std.proofs.Common.{◌≡◌}
use Rattle.mufom_text.specs.Digits.{without_zeros}
use Rattle.mufom_text.proofs.digits.without_zeros.Given as goal

abbrev pub invariant-loop-count : goal.invariant-loop-count
invariant-loop-count l = without_zeros l.count l.rest ≡ without_zeros l.most l.digits

abbrev pub decreases-loop-count : goal.decreases-loop-count
decreases-loop-count l = l.count
