use Rattle.std.proofs.Common.{◌≡◌, ◌-◌, ◌++◌, ℕ, List}
use Rattle.mufom_map.specs.Room.{signs_from}
use Rattle.mufom_map.specs.Shown.{section_extents}
use Rattle.mufom_map.proofs.regions.signs.Given as goal

-- signs were put that with those of the other cells are the signs of all
abbrev pub invariant-loop-cell : goal.invariant-loop-cell
invariant-loop-cell g l = let extents = section_extents l.room.sections.now in
    (done : List ℕ) × g.K.Output.takes l.fn.out l.out done
    × (signs_from l.region extents l.count 0 ≡ done ++ signs_from l.region extents (l.count - l.cell) l.cell)
