use Rattle.std.proofs.Common.{◌≡◌, ◌+◌, ◌++◌, map, drop}
use Rattle.std.specs.List.{enumerate_from}
use Rattle.mufom_place.specs.Bases.{waiting as waiting_of}
use Rattle.mufom_place.proofs.entries.waiting_commons.Given as goal

-- the commons so far are listed
abbrev pub invariant-loop-place : goal.invariant-loop-place
invariant-loop-place l = map waiting_of (enumerate_from l.first l.commons) ≡ l.list.items
    ++ map waiting_of (enumerate_from (l.first + l.place) (drop l.place l.commons))
