-- The absolute module of a location by a plan is located as itself, has no defect, and weighs no more than a bound.
use Rattle.std.proofs.Common.{◌≡◌, ◌+◌, ◌^◌, ◌<◌, ◌≤◌, List, [], ◌∷◌, length, None}
use Rattle.std.proofs.Common.{arith, ◌*◌}
use Rattle.std.specs.Prelude.{◌^◌}
use Rattle.mufom_numbers.specs.declared.limits.TheConstants.{MOST_PLAN_BYTES}
use Rattle.mufom_module.specs.declared.module.Parts.{Parts}
use Rattle.mufom_module.specs.Defects.{IsValid}
use Rattle.mufom_module.specs.Written.{weight}
use Rattle.mufom_plan.specs.declared.plan.Plan.{Plan}
use Rattle.mufom_meaning.specs.declared.located.LocatedParts.{LocatedParts}
use Rattle.mufom_meaning.specs.Flat.{flat_sections}
use Rattle.mufom_meaning.specs.Counts.{loaded_total}
use Rattle.mufom_meaning.specs.Location.{IsLocation}
use Rattle.mufom_meaning.specs.LinkAnswer.{link_answer}
use Rattle.mufom_meaning.specs.LocateAnswer.{locate_answer}
use Rattle.mufom_meaning.specs.Staging.{AreValid}
use Rattle.mufom_meaning.specs.Absolute.{absolute_of, no_regions}
use Rattle.mufom_meaning.proofs.absolute.Located.{located_as_itself}
use Rattle.mufom_meaning.proofs.absolute.Valid.{valid_alone}
use Rattle.mufom_planned.specs.Layout.{layout}
use Rattle.mufom_planned.specs.PlanSymbols.{with_symbols, with_names}
use Rattle.mufom_planned.specs.Planned.{copied_answer}
use Rattle.mufom_planned.specs.Planned.{HasLocation}
use Rattle.mufom_planned.specs.PlanLaws.{PlannedAbsoluteIsLocatedAsItself, regions_size, PlannedAbsoluteIsValid}
use Rattle.mufom_planned.specs.PlanLaws.{PlannedAbsoluteWeighs}
use Rattle.mufom_planned.proofs.Locatable.{copied_none, planned_is_locatable}
use Rattle.mufom_meaning.specs.LocationLaws.{asking_count}
use Rattle.mufom_meaning.specs.StagingLaws.{total_weight}
use Rattle.mufom_planned.specs.Numbers.{symbol_number}
use Rattle.mufom_planned.proofs.SymbolsModule.{light}
use Rattle.mufom_planned.proofs.SoundLocation.{sound, plain}
use Rattle.mufom_planned.proofs.Weight.{weighs_with_copies, followed-heavier}

module _ (plan : Plan) (r : LocatedParts) where
  located_again : (ms : List Parts) → AreValid ms → link_answer ms ≡ None → locate_answer ms plan ≡ None → copied_answer ms plan ≡ None
      → HasLocation ms plan r → IsLocation (absolute_of r ∷ []) no_regions r
  located_again [] v links locates answer h = let e = h.first in absurd cc
  located_again (m ∷ more) v links locates answer h = located_as_itself m more plan r v (sound m more plan r v links locates answer h)

  valid_again : (ms : List Parts) → AreValid ms → link_answer ms ≡ None → locate_answer ms plan ≡ None → copied_answer ms plan ≡ None
      → HasLocation ms plan r → regions_size plan.regions ≤ MOST_PLAN_BYTES → weight (absolute_of r) < 2 ^ 32 → IsValid (absolute_of r)
  valid_again [] v links locates answer h few light = let e = h.first in absurd cc
  valid_again (m ∷ more) v links locates answer h few light =
      valid_alone m more plan r v (sound m more plan r v links locates answer h) (plain m more plan r v links locates answer h few) light

pub planned_located_as_itself : PlannedAbsoluteIsLocatedAsItself
planned_located_as_itself ms plan r v symbols h =
    let ready = planned_is_locatable ms plan v symbols h.links h.locates in
    located_again plan r (with_symbols ms plan) ready.valid ready.links ready.locates (copied_none ms plan h.locates) h.located

pub planned_absolute_is_valid : PlannedAbsoluteIsValid
planned_absolute_is_valid ms plan r v symbols few h light =
    let ready = planned_is_locatable ms plan v symbols h.links h.locates in
    valid_again plan r (with_symbols ms plan) ready.valid ready.links ready.locates (copied_none ms plan h.locates) h.located few light

weighs_again : (plan : Plan) (r : LocatedParts) (ms : List Parts) → AreValid ms → link_answer ms ≡ None → locate_answer ms plan ≡ None
    → copied_answer ms plan ≡ None → HasLocation ms plan r
    → weight (absolute_of r)
    ≤ total_weight ms + 31 * length (flat_sections ms) + 31 * loaded_total ms + 42 * asking_count ms + 84 * regions_size plan.regions
weighs_again plan r [] v links locates answer h = let e = h.first in absurd cc
weighs_again plan r (m ∷ more) v links locates answer h = weighs_with_copies m more plan r v links locates answer h

pub planned_absolute_weighs : PlannedAbsoluteWeighs
planned_absolute_weighs ms plan r v symbols h =
    let ready = planned_is_locatable ms plan v symbols h.links h.locates in
    let all = weighs_again plan r (with_symbols ms plan) ready.valid ready.links ready.locates (copied_none ms plan h.locates) h.located in
    let more = followed-heavier (λ symbol. symbol_number (layout (with_names ms plan) plan) symbol.value) plan.symbols ms in
    let weighs = more.weighs in let sections = more.sections in let loads = more.loads in let asks = more.asks in
    omega (arith, all, weighs, sections, loads, asks)
