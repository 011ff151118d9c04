use Rattle.std.proofs.Common.{◌≡◌, map, take}
use Rattle.mufom_plan.specs.declared.plan.Region.{Region}
use Rattle.mufom_place.specs.Filling.{AreLowEnds}
use Rattle.mufom_place.proofs.copies.region_bases.Given as goal

abbrev pub invariant-loop-region : goal.invariant-loop-region
invariant-loop-region l = record {
  bases : l.ends.items ≡ map (λ (r : Region). r.base) (take l.region-index l.regions);
  low : AreLowEnds 0 l.ends.items;
}
