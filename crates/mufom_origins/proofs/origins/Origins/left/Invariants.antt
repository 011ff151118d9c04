use Rattle.std.proofs.Common.{◌≡◌, ◌++◌, drop}
use Rattle.mufom_origins.specs.Origins.{origins_left}
use Rattle.mufom_origins.proofs.origins.Origins.left.Given as goal

abbrev pub invariant-loop-origin : goal.invariant-loop-origin
invariant-loop-origin l = l.copies.items ++ origins_left l.sections l.publics (drop l.origin-index l.origin-items)
    ≡ origins_left l.fn.sections l.fn.publics l.origin-items
