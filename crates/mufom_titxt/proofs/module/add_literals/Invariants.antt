use Rattle.std.proofs.Common.{◌≡◌, ◌++◌, length}
use Rattle.mufom_titxt.specs.TextModules.{literals}
use Rattle.mufom_titxt.proofs.module.add_literals.Given as goal

abbrev pub invariant-loop-rest : goal.invariant-loop-rest
invariant-loop-rest l = l.loads ++ literals (length l.rest) l.rest ≡ l.fn.loads ++ literals (length l.bytes) l.bytes

abbrev pub decreases-loop-rest : goal.decreases-loop-rest
decreases-loop-rest l = length l.rest
