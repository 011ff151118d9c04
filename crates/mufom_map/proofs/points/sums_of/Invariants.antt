use Rattle.std.proofs.Common.{◌≡◌, ◌≤◌, ◌*◌, take}
use Rattle.std.specs.Prelude.{sum}
use Rattle.mufom_map.specs.Points.{AreSums, most_point}
use Rattle.mufom_map.proofs.points.sums_of.Given as goal

abbrev pub invariant-loop-point : goal.invariant-loop-point
invariant-loop-point l = record {
  so_far : l.sum ≡ sum (take l.point-index l.points);
  low : l.sum ≤ l.point-index * most_point;
  are : AreSums (take l.point-index l.points) l.sums.items;
}
