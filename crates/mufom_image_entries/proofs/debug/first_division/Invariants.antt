use Rattle.std.proofs.Common.{◌≡◌, ◌≤◌, drop, length}
use Rattle.mufom_image_entries.specs.Valued.{divides, NoneBefore}
use Rattle.mufom_image_entries.proofs.debug.first_division.Given as goal

-- the expressions before the count do not divide by 0, and those from it on are still to come
abbrev pub invariant-loop-expression : goal.invariant-loop-expression
invariant-loop-expression l =
    (drop l.count l.fn.rest ≡ l.rest) × (l.count ≤ length l.fn.rest) × NoneBefore (divides l.valued) l.fn.rest l.count

-- each turn takes one
abbrev pub decreases-loop-expression : goal.decreases-loop-expression
decreases-loop-expression l = length l.rest
