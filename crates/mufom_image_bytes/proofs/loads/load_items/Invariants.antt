use Rattle.std.proofs.Common.{◌≡◌, map, drop}
use Rattle.mufom_image_bytes.specs.Counted.{value_with}
use Rattle.mufom_image_bytes.specs.Loaded.{IsTiled}
use Rattle.mufom_image_bytes.specs.Outcomes.{items_outcome}
use Rattle.mufom_image_bytes.specs.Walks.{progress_of}
use Rattle.mufom_image_bytes.proofs.loads.load_items.Given as goal

abbrev pub invariant-loop-item : goal.invariant-loop-item
invariant-loop-item g l = let valuation = value_with (g.E.Env.meaning l.values) l.layout.width in record {
  tiled : IsTiled l.walk.loaded;
  outcome : items_outcome l.layout valuation l.section (map (λ item. item.now) l.items) (progress_of l.fn.walk)
      ≡ items_outcome l.layout valuation l.section (map (λ item. item.now) (drop l.item-index l.items)) (progress_of l.walk);
}
