use Rattle.std.proofs.Common.{◌≡◌, ◌++◌, drop}
use Rattle.std.specs.List.{enumerate_from, flat_map}
use Rattle.mufom_locating.specs.Moves.{section_shifts}
use Rattle.mufom_locating.proofs.moves.section_shifts.Given as goal

abbrev pub invariant-loop-place : goal.invariant-loop-place
invariant-loop-place l =
    l.shifts.items ++ flat_map (section_shifts l.bases l.placed l.moves) (enumerate_from l.place (drop l.place l.sections))
    ≡ flat_map (section_shifts l.bases l.placed l.moves) (enumerate_from 0 l.sections)
