use Rattle.std.proofs.Common.{◌≡◌, ◌-◌, map}
use Rattle.mufom_loads.specs.Lengths.{repeated}
use Rattle.mufom_image_bytes.specs.Counted.{value_with}
use Rattle.mufom_image_bytes.specs.Loaded.{IsTiled}
use Rattle.mufom_image_bytes.specs.Outcomes.{items_outcome}
use Rattle.mufom_image_bytes.specs.Walks.{progress_of}
use Rattle.mufom_image_bytes.proofs.loads.load_copies.Given as goal

abbrev pub invariant-loop : goal.invariant-loop
invariant-loop g l = let valuation = value_with (g.E.Env.meaning l.values) l.layout.width in record {
  tiled : IsTiled l.walk.loaded;
  outcome : items_outcome l.layout valuation l.section (repeated l.count (map (λ item. item.now) l.items)) (progress_of l.fn.walk)
      ≡ items_outcome l.layout valuation l.section (repeated (l.count - l.counter) (map (λ item. item.now) l.items)) (progress_of l.walk);
}
