use Rattle.std.proofs.Common.{◌≡◌, ◌+◌, ◌++◌, drop, length}
use Rattle.std.specs.Prelude.{All}
use Rattle.mufom_plan.specs.Names.{listed_names}
use Rattle.mufom_place.specs.Packing.{IsLow, placings_from}
use Rattle.mufom_place.proofs.bases.placings.Given as goal

-- the regions so far are filled, and as many entries are left as their lists have names
abbrev pub invariant-loop-place : goal.invariant-loop-place
invariant-loop-place l = record {
  placed : placings_from 0 l.plan.regions l.entries l.commons ≡ l.placings
      ++ placings_from l.place (drop l.place l.plan.regions) (drop l.start l.entries) l.commons;
  low : All IsLow l.placings;
  left : length l.entries ≡ l.start + length (listed_names (drop l.place l.plan.regions));
}
