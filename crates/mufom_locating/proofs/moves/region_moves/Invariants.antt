use Rattle.std.proofs.Common.{◌≡◌, ◌++◌, drop, map}
use Rattle.std.specs.List.{enumerate_from}
use Rattle.mufom_locating.specs.Moves.{region_move}
use Rattle.mufom_locating.proofs.moves.region_moves.Given as goal

abbrev pub invariant-loop-place : goal.invariant-loop-place
invariant-loop-place l =
    l.moves.items ++ map (region_move l.copies l.bases) (enumerate_from l.place (drop l.place l.regions))
    ≡ map (region_move l.copies l.bases) (enumerate_from 0 l.regions)
