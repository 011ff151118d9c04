use Rattle.std.proofs.Common.{◌≡◌, ◌+◌, take}
use Rattle.mufom_planned.specs.PlanLaws.{regions_size}
use Rattle.mufom_locating.proofs.plain.have_short_names.Given as goal

abbrev pub invariant-loop-region : goal.invariant-loop-region
invariant-loop-region l = l.room + regions_size (take l.region-index l.regions) ≡ 65536
