use Rattle.std.proofs.Common.{◌≡◌}
use Rattle.mufom_titxt.specs.Written.{without_zeros}
use Rattle.mufom_titxt.proofs.page.without_zeros.Given as goal

abbrev pub invariant-loop-left : goal.invariant-loop-left
invariant-loop-left l = without_zeros l.left l.rest ≡ without_zeros l.most l.digits

abbrev pub decreases-loop-left : goal.decreases-loop-left
decreases-loop-left l = l.left
