-- A list has one location by a plan at most.
use Rattle.std.proofs.Common.{◌≡◌, List, sym, ◌∙◌, subst}
use Rattle.std.specs.Prelude.{◌^◌}
use Rattle.mufom_module.specs.declared.module.Parts.{Parts}
use Rattle.mufom_plan.specs.declared.plan.Plan.{Plan}
use Rattle.mufom_meaning.specs.declared.located.LocatedParts.{LocatedParts}
use Rattle.mufom_meaning.specs.Flat.{width}
use Rattle.mufom_meaning.specs.Placed.{planned_bases}
use Rattle.mufom_meaning.specs.Readings.{readings}
use Rattle.mufom_meaning.specs.AddressMap.{AreRunsOf}
use Rattle.mufom_meaning.specs.Location.{Header}
use Rattle.mufom_numbers.proofs.Choices.{some_same}
use Rattle.mufom_meaning.proofs.locations.CellRuns.{rows_are_single}
use Rattle.mufom_meaning.proofs.locations.Single.{same_order, same_parts}
use Rattle.mufom_planned.specs.Layout.{layout}
use Rattle.mufom_planned.specs.PlanSymbols.{with_symbols}
use Rattle.mufom_planned.specs.Planned.{load_map, HasLocation}
use Rattle.mufom_planned.specs.PlanLaws.{PlannedLocationIsSingle}

one_location : (ms : List Parts) (plan : Plan) (r q : LocatedParts) → HasLocation ms plan r → HasLocation ms plan q → r ≡ q
one_location ms plan r q h k =
    let first : ◌≡◌ {A = Header} (r.processor, r.name, r.maus, r.order) (q.processor, q.name, q.maus, q.order) = some_same _ _ (sym h.first ∙ k.first) in
    let steps = (readings ms (planned_bases ms plan)).steps in
    let rows : AreRunsOf (load_map (layout ms plan) q.order (2 ^ width ms) steps) r.runs =
    subst (λ o. AreRunsOf (load_map (layout ms plan) o (2 ^ width ms) steps) r.runs) (same_order r q first) h.rows in
    let runs : r.runs ≡ q.runs = rows_are_single (load_map (layout ms plan) q.order (2 ^ width ms) steps) r.runs q.runs rows k.rows in
    same_parts r q first (h.sections ∙ sym k.sections) (h.publics ∙ sym k.publics) (h.start ∙ sym k.start) (h.debug ∙ sym k.debug) runs

pub planned_location_is_single : PlannedLocationIsSingle
planned_location_is_single ms plan r q h k = one_location (with_symbols ms plan) plan r q h.located k.located
