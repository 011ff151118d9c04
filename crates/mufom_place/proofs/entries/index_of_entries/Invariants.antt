use Rattle.std.proofs.Common.{◌≡◌, take}
use Rattle.mufom_plan.specs.Names.{listed_names}
use Rattle.mufom_place.proofs.entries.index_of_entries.Given as goal

abbrev pub invariant-loop-region : goal.invariant-loop-region
invariant-loop-region l = l.index ≡ listed_names (take l.region-index l.plan.regions)
