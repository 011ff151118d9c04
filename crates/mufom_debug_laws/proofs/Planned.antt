-- The location of modules without debug items by a plan with symbols and copies.
use Rattle.std.proofs.Common.{◌≡◌, ℕ, ◌^◌, List, [], ◌∷◌, map, Option, Some, None, ◌||◌, refl, sym, ap, subst, ◌∙◌}
use Rattle.std.specs.Prelude.{find, option_map}
use Rattle.std.specs.List.{list_any}
use Rattle.std.proofs.lemmas.List.{map-append}
use Rattle.mufom_module.specs.declared.module.Parts.{Parts}
use Rattle.mufom_plan.specs.declared.plan.Plan.{Plan}
use Rattle.mufom_plan.specs.declared.plan.PlanSymbol.{PlanSymbol}
use Rattle.mufom_plan.specs.Names.{has_name, symbol_names}
use Rattle.mufom_place.specs.Copies.{all_refusal, copies}
use Rattle.mufom_place.specs.Facts.{◌or_else◌}
use Rattle.mufom_meaning.specs.declared.located.LocatedParts.{LocatedParts}
use Rattle.mufom_meaning.specs.AddressMap.{AreRunsOf, Cell}
use Rattle.mufom_meaning.specs.Facts.{LocateFact, placement}
use Rattle.mufom_meaning.specs.Flat.{width}
use Rattle.mufom_meaning.specs.LocateAnswer.{after_placing}
use Rattle.mufom_meaning.specs.Location.{located_mark, placed_sections}
use Rattle.mufom_meaning.specs.Placed.{planned_bases}
use Rattle.mufom_meaning.specs.Readings.{Readings, readings}
use Rattle.mufom_meaning.specs.Steps.{Step, counter_step, item_step, steps}
use Rattle.mufom_planned.specs.Layout.{Layout, layout, loads_into, has_bytes, whole_list, layout_bases}
use Rattle.mufom_planned.specs.Numbers.{symbol_number}
use Rattle.mufom_planned.specs.Planned.{shared_name, of_list, layout_fact, copied_answer, planned_answer, load_map, HasLocation, IsPlanned}
use Rattle.mufom_planned.specs.PlanSymbols.{followed_by, symbols_module, with_names, with_symbols, first_shared}
use Rattle.mufom_planned.proofs.Single.{planned_location_is_single}
use Rattle.mufom_debug_laws.specs.Without.{without_debug, all_without_debug, fact_without_debug, located_without_debug}
use Rattle.mufom_debug_laws.specs.PlannedLaws.{plan_fact_without_debug, PlansLoseDebugAlone}
use Rattle.mufom_debug_laws.proofs.Sites.{sections-bare, names-bare}
use Rattle.mufom_debug_laws.proofs.Links.{answer-bare}
use Rattle.mufom_debug_laws.proofs.Values.{width-bare}
use Rattle.mufom_debug_laws.proofs.Steps.{bare_step, steps-bare}
use Rattle.mufom_debug_laws.proofs.Plain.{beyond, plain-mapped}
use Rattle.mufom_debug_laws.proofs.Located.{placed-bare, planned-readings, first-header-bare, later-there}

-- ---- the layout

loads-bare : (n : ℕ) (step : Step) → loads_into n (bare_step step) ≡ loads_into n step
loads-bare n (counter_step site section t) = refl
loads-bare n (item_step site section item) = refl

any-bare : (n : ℕ) (all : List Step) → list_any (loads_into n) (map bare_step all) ≡ list_any (loads_into n) all
any-bare n [] = refl
any-bare n (step ∷ all) = λ i. loads-bare n step i || any-bare n all i

bytes-bare : (ms : List Parts) (n : ℕ) → has_bytes (all_without_debug ms) n ≡ has_bytes ms n
bytes-bare ms n = ap (list_any (loads_into n)) (steps-bare ms) ∙ any-bare n (steps ms)

layout-bare : (ms : List Parts) (plan : Plan) → layout (all_without_debug ms) plan ≡ layout ms plan
layout-bare ms plan = λ i. record {
  plan = plan;
  sections = sections-bare ms i;
  commons = placed-bare ms plan i;
  copied = copies plan (sections-bare ms i) (placed-bare ms plan i) (λ n. bytes-bare ms n i);
}

-- ---- the symbols of the plan

followed-bare : (ms : List Parts) (numbers : PlanSymbol → ℕ) (symbols : List PlanSymbol) → followed_by (all_without_debug ms) numbers symbols
    ≡ all_without_debug (followed_by ms numbers symbols)
followed-bare [] numbers symbols = refl
followed-bare (m ∷ ms) numbers [] = refl
followed-bare (m ∷ ms) numbers (symbol ∷ more) = sym (map-append without_debug (m ∷ ms) (symbols_module m numbers (symbol ∷ more) ∷ []))

named-layout : (ms : List Parts) (plan : Plan) → layout (with_names (all_without_debug ms) plan) plan ≡ layout (with_names ms plan) plan
named-layout ms plan = ap (λ list. layout list plan) (followed-bare ms (λ symbol. 0) plan.symbols) ∙ layout-bare (with_names ms plan) plan

symbols-bare : (ms : List Parts) (plan : Plan) → with_symbols (all_without_debug ms) plan ≡ all_without_debug (with_symbols ms plan)
symbols-bare ms plan = (λ i. followed_by (all_without_debug ms) (λ symbol. symbol_number (named-layout ms plan i) symbol.value) plan.symbols)
    ∙ followed-bare ms (λ symbol. symbol_number (layout (with_names ms plan) plan) symbol.value) plan.symbols

-- ---- the fact that is returned

layout-fact-bare : (ms : List Parts) (plan : Plan) → layout_fact (all_without_debug ms) (layout (all_without_debug ms) plan)
    ≡ layout_fact ms (layout ms plan)
layout-fact-bare ms plan = λ i. option_map placement (all_refusal (width-bare ms i) plan (layout-bare ms plan i).sections (layout-bare ms plan i).commons
    (layout-bare ms plan i).copied)

copied-bare : (ms : List Parts) (plan : Plan) → copied_answer (all_without_debug ms) plan ≡ fact_without_debug (copied_answer ms plan)
copied-bare ms plan =
    let l = layout ms plan in
    (λ i. layout-fact-bare ms plan i or_else later-there ms plan i)
    ∙ sym (beyond (layout_fact ms l) (after_placing ms plan) (fact_without_debug (after_placing ms plan))
    (plain-mapped placement (λ r. refl) (all_refusal (width ms) plan l.sections l.commons l.copied)) refl)

shared-first : (o : Option (List ℕ)) (p : Option LocateFact) → plan_fact_without_debug (option_map shared_name o or_else option_map of_list p)
    ≡ (option_map shared_name o or_else option_map of_list (fact_without_debug p))
shared-first (Some name) p = refl
shared-first None None = refl
shared-first None (Some fact) = refl

shared-bare : (ms : List Parts) (plan : Plan) → first_shared (all_without_debug ms) plan ≡ first_shared ms plan
shared-bare ms plan = λ i. find (has_name (names-bare ms i)) (symbol_names plan.symbols)

planned-answer-bare : (ms : List Parts) (plan : Plan) → planned_answer (all_without_debug ms) plan ≡ plan_fact_without_debug (planned_answer ms plan)
planned-answer-bare ms plan =
    let own : copied_answer (with_symbols (all_without_debug ms) plan) plan ≡ fact_without_debug (copied_answer (with_symbols ms plan) plan) =
    ap (λ list. copied_answer list plan) (symbols-bare ms plan) ∙ copied-bare (with_symbols ms plan) plan in
    (λ i. option_map shared_name (shared-bare ms plan i) or_else option_map of_list (own i))
    ∙ sym (shared-first (first_shared ms plan) (copied_answer (with_symbols ms plan) plan))

-- ---- locations

cells-bare : (ms : List Parts) (plan : Plan) (r : LocatedParts)
    → load_map (layout (all_without_debug ms) plan) r.order (2 ^ width (all_without_debug ms))
    (readings (all_without_debug ms) (planned_bases (all_without_debug ms) plan)).steps
    ≡ load_map (layout ms plan) r.order (2 ^ width ms) (readings ms (planned_bases ms plan)).steps
cells-bare ms plan r = λ i. load_map (layout-bare ms plan i) r.order (2 ^ width-bare ms i) (planned-readings ms plan i).steps

has-location-bare : (ms : List Parts) (plan : Plan) (r : LocatedParts) → HasLocation ms plan r
    → HasLocation (all_without_debug ms) plan (located_without_debug r)
has-location-bare ms plan r is = record {
  first = first-header-bare ms ∙ is.first;
  sections = is.sections ∙ sym (ap (λ (l : Layout). placed_sections (layout_bases l) (whole_list l)) (layout-bare ms plan));
  publics = is.publics ∙ sym (ap (λ (q : Readings). q.publics) (planned-readings ms plan));
  start = is.start ∙ sym (ap (λ (q : Readings). q.starts) (planned-readings ms plan));
  debug = sym (ap (λ (q : Readings). map located_mark q.debug) (planned-readings ms plan));
  rows = subst (λ (cells : List Cell). AreRunsOf cells r.runs) (sym (cells-bare ms plan r)) is.rows;
}

pub planned-bare : (ms : List Parts) (plan : Plan) (r : LocatedParts) → IsPlanned ms plan r → IsPlanned (all_without_debug ms) plan (located_without_debug r)
planned-bare ms plan r is = record {
  links = answer-bare ms ∙ is.links;
  locates = planned-answer-bare ms plan ∙ ap plan_fact_without_debug is.locates;
  located = subst (λ (list : List Parts). HasLocation list plan (located_without_debug r)) (sym (symbols-bare ms plan))
      (has-location-bare (with_symbols ms plan) plan r is.located);
}

pub plans-lose-debug-alone : PlansLoseDebugAlone
plans-lose-debug-alone ms plan = record {
  answer = planned-answer-bare ms plan;
  location = planned-bare ms plan;
  only = λ r other is also. planned_location_is_single (all_without_debug ms) plan other (located_without_debug r) also (planned-bare ms plan r is);
}
