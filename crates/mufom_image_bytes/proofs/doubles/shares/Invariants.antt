use Rattle.std.proofs.Common.{◌≡◌, length}
use Rattle.mufom_image_bytes.specs.Shared.{shares_from}
use Rattle.mufom_image_bytes.proofs.doubles.shares.Given as goal

abbrev pub invariant-loop-rest : goal.invariant-loop-rest
invariant-loop-rest l = shares_from l.count 0 l.chunks ≡ shares_from l.count l.end l.rest

abbrev pub decreases-loop-rest : goal.decreases-loop-rest
decreases-loop-rest l = length l.rest
