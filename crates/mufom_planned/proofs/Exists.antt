-- A list that can be located by a plan has a location.
use Rattle.std.proofs.Common.{◌≡◌, ◌≢◌, List, [], ◌∷◌, None, refl}
use Rattle.std.specs.Prelude.{ℕ}
use Rattle.mufom_module.specs.declared.module.Parts.{Parts}
use Rattle.mufom_plan.specs.declared.plan.PlanSymbol.{PlanSymbol}
use Rattle.mufom_plan.specs.declared.plan.Plan.{Plan}
use Rattle.mufom_meaning.specs.declared.located.LocatedParts.{LocatedParts}
use Rattle.mufom_meaning.specs.Placed.{planned_bases}
use Rattle.mufom_meaning.specs.Values.{setting}
use Rattle.mufom_meaning.specs.Steps.{steps, readings_after}
use Rattle.mufom_meaning.specs.Readings.{readings}
use Rattle.mufom_meaning.specs.Location.{placed_sections}
use Rattle.mufom_meaning.specs.LinkAnswer.{link_answer}
use Rattle.mufom_meaning.specs.LocateAnswer.{locate_answer}
use Rattle.mufom_meaning.specs.Staging.{AreValid}
use Rattle.mufom_meaning.proofs.locations.CellRuns.{rows_exist}
use Rattle.mufom_meaning.proofs.locations.Exists.{locations_exist}
use Rattle.mufom_planned.specs.Layout.{layout, layout_bases, whole_list}
use Rattle.mufom_planned.specs.PlanSymbols.{followed_by, with_symbols}
use Rattle.mufom_planned.specs.Planned.{copied_answer, load_map, HasLocation}
use Rattle.mufom_planned.specs.PlanLaws.{PlannedLocationsExist}
use Rattle.mufom_planned.proofs.Apart.{loads_own}
use Rattle.mufom_planned.proofs.Locatable.{copied_none, planned_is_locatable}

-- the location without copies, with the sections and the runs of the location with them
with_copies_located : (ms : List Parts) (plan : Plan) → ms ≢ [] → AreValid ms → link_answer ms ≡ None → locate_answer ms plan ≡ None
    → copied_answer ms plan ≡ None → (r : LocatedParts) × HasLocation ms plan r
unfolding readings
with_copies_located ms plan some v links locates answer =
    let l = layout ms plan in
    let s = setting ms (planned_bases ms plan) in
    let without = locations_exist ms plan some v links locates in
    let q = without.0 in
    let rows = rows_exist (load_map l q.order s.modulus (readings_after s [] (steps ms))) (loads_own ms plan v links locates answer q.order) in (
      record q { sections = placed_sections (layout_bases l) (whole_list l); runs = rows.0 },
      record {
        first = without.1.first;
        sections = refl;
        publics = without.1.publics;
        start = without.1.start;
        debug = without.1.debug;
        rows = rows.1;
      },
    )

followed_some : (numbers : PlanSymbol → ℕ) (symbols : List PlanSymbol) (ms : List Parts) → ms ≢ [] → followed_by ms numbers symbols ≢ []
followed_some numbers symbols [] some = λ e. some refl
followed_some numbers [] (m ∷ ms) some = λ e. cc
followed_some numbers (symbol ∷ more) (m ∷ ms) some = λ e. cc

pub planned_locations_exist : PlannedLocationsExist
planned_locations_exist ms plan some v symbols links answer =
    let ready = planned_is_locatable ms plan v symbols links answer in
    let there = with_copies_located (with_symbols ms plan) plan (followed_some _ plan.symbols ms some) ready.valid ready.links ready.locates
    (copied_none ms plan answer) in
    (there.0, record { links = links; locates = answer; located = there.1 })
