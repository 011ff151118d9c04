use Rattle.std.proofs.Common.{◌≡◌, ◌+◌, ◌++◌, map, take}
use Rattle.mufom_groups.proofs.refused.add_members.Given as goal

abbrev pub invariant-loop-position : goal.invariant-loop-position
invariant-loop-position l = l.files ≡ l.fn.files ++ map (λ position. l.first + position) (take l.position-index l.chosen)
