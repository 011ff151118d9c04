use Rattle.std.proofs.Common.{◌≡◌, drop, map, length, []}
use Rattle.toml.specs.View.{view}
use Rattle.mufom_plan.specs.Names.{region_names, listed_names}
use Rattle.mufom_plan.specs.Commons.{has_common}
use Rattle.mufom_plan.specs.PlanText.{regions_of, in_prefix}
use Rattle.mufom_plan.proofs.read.regions.Given as goal

-- the regions so far are read, and the rest of the array decides the rest
abbrev pub invariant-loop-place : goal.invariant-loop-place
invariant-loop-place l = record {
  count : length l.regions ≡ l.place;
  named : l.names ≡ region_names l.regions;
  listed : l.listed ≡ listed_names l.regions;
  common : l.common ≡ has_common l.regions;
  rest : regions_of [] (map view l.values) ≡ in_prefix l.regions (regions_of l.regions (map view (drop l.place l.values)));
}
