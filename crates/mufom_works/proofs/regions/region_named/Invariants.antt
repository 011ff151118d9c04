use Rattle.std.proofs.Common.{◌≡◌, None, take}
use Rattle.mufom_works.specs.Works.{region_named}
use Rattle.mufom_works.proofs.regions.region_named.Given as goal

abbrev pub invariant-loop-region : goal.invariant-loop-region
invariant-loop-region l = region_named (take l.region-index l.regions) l.name ≡ None
