use Rattle.std.proofs.Common.{◌≡◌, None, drop}
use Rattle.mufom_image_bytes.specs.Counted.{value_with}
use Rattle.mufom_image_bytes.specs.Loaded.{IsTiled}
use Rattle.mufom_image_bytes.specs.Outcomes.{loads_outcome, progress_at_first}
use Rattle.mufom_image_bytes.specs.Walks.{progress_of, first_counters}
use Rattle.mufom_image_bytes.proofs.loads.walk_loads.Given as goal

abbrev pub invariant-loop-load : goal.invariant-loop-load
invariant-loop-load g l = let valuation = value_with (g.E.Env.meaning l.values) l.layout.width in record {
  tiled : IsTiled l.walk.loaded;
  outcome : loads_outcome l.layout valuation None l.loads (progress_at_first (first_counters l.layout))
      ≡ loads_outcome l.layout valuation l.current (drop l.load-index l.loads) (progress_of l.walk);
}
