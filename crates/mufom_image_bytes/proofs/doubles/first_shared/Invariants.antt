use Rattle.std.proofs.Common.{◌≡◌, ◌-◌, ◌<◌, ◌≤◌, true, false}
use Rattle.mufom_image_bytes.specs.Shared.{shares_from}
use Rattle.mufom_image_bytes.proofs.doubles.first_shared.Given as goal

abbrev pub invariant-loop-over : goal.invariant-loop-over
invariant-loop-over l = (l.apart < l.over) × (l.over ≤ l.count) × (shares_from l.over 0 l.chunks ≡ true) × (shares_from l.apart 0 l.chunks ≡ false)

abbrev pub decreases-loop-over : goal.decreases-loop-over
decreases-loop-over l = l.over - l.apart
