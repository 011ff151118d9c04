use Rattle.std.proofs.Common.{◌≡◌, ◌≤◌, ℕ, map, take}
use Rattle.std.specs.Prelude.{All}
use Rattle.mufom_map.specs.Points.{most_point}
use Rattle.mufom_map.specs.Shown.{base_of}
use Rattle.mufom_map.proofs.room.starts_of.Given as goal

abbrev pub invariant-loop-section : goal.invariant-loop-section
invariant-loop-section l = record {
  are : l.points.items ≡ map base_of (take l.section-index l.sections);
  low : All (λ (p : ℕ). p ≤ most_point) l.points.items;
}
