-- The meaning and the location of modules without debug items.
use Rattle.std.proofs.Common.{◌≡◌, ℕ, ◌^◌, List, [], ◌∷◌, ◌++◌, length, map, flat_map, take, drop, Option, Some, None, cond, refl, sym, ap, subst, ◌∙◌}
use Rattle.std.specs.Prelude.{◌+◌, find, nat_lt, not, option_map, option_to_list, slice_get}
use Rattle.std.specs.List.{enumerate_from}
use Rattle.std.proofs.lemmas.List.Sums.{sum_by-cons}
use Rattle.std.specs.Str.{bytes_eq}
use Rattle.mufom_numbers.specs.declared.limits.TheConstants.{MOST_IMAGE_BYTES}
use Rattle.mufom_loads.specs.Lengths.{lengths_loaded}
use Rattle.mufom_debug.specs.Marks.{marks_of}
use Rattle.mufom_module.specs.declared.module.Parts.{Parts}
use Rattle.mufom_plan.specs.declared.plan.Plan.{Plan}
use Rattle.mufom_plan.specs.Names.{has_name}
use Rattle.mufom_plan.specs.Commons.{has_common}
use Rattle.mufom_place.specs.Bases as placing
use Rattle.mufom_place.specs.Facts.{◌or_else◌, first_some, place_refusal}
use Rattle.mufom_meaning.specs.declared.located.LocatedParts.{LocatedParts}
use Rattle.mufom_meaning.specs.declared.located.Site.TheVariants as sites
use Rattle.mufom_meaning.specs.AddressMap.{AreRunsOf, Cell, address_map}
use Rattle.mufom_meaning.specs.Bases.{Bases}
use Rattle.mufom_meaning.specs.Counts.{loaded_total}
use Rattle.mufom_meaning.specs.Flat.{SitedPublic, sited, flat_sections, distinct, public_names, width}
use Rattle.mufom_meaning.specs.Values.{Setting, setting, value}
use Rattle.mufom_meaning.specs.Steps.{steps, step_readings}
use Rattle.mufom_meaning.specs.Placed.{base_named, common_section, common_sections, placed_commons, planned_bases, base_list}
use Rattle.mufom_meaning.specs.Readings.{Readings, mark_reading, public_reading, readings}
use Rattle.mufom_meaning.specs.Facts.{LocateFact, undefined, common_unplaced, cycle, image_limit, placement}
use Rattle.mufom_meaning.specs.Cycles.{is_on_cycle}
use Rattle.mufom_meaning.specs.Walk.{public_fact, steps_fact, start_fact, start_trees, debug_fact, debug_trees, walk_answer}
use Rattle.mufom_meaning.specs.LocateAnswer.{after_placing, first_undefined, first_unplaced_common, cycle_at, image_limit_at, locate_answer}
use Rattle.mufom_meaning.specs.Location.{IsLocation, first_header, located_mark, located_sections, placed_sections}
use Rattle.mufom_meaning.proofs.Unfolding.{locate_answer-order}
use Rattle.mufom_meaning.proofs.locations.Single.{location_is_single}
use Rattle.mufom_debug_laws.specs.Without.{without_debug, all_without_debug, readings_without_debug, fact_without_debug, located_without_debug}
use Rattle.mufom_debug_laws.specs.LocationLaws.{LocationsLoseDebugAlone, ReadingsLoseDebugAlone}
use Rattle.mufom_debug_laws.proofs.Sites.{sited-bare, flat-sites, no-entries, sections-bare, names-bare}
use Rattle.mufom_debug_laws.proofs.Links.{answer-bare}
use Rattle.mufom_debug_laws.proofs.Values.{bare_public, bare_setting, setting-bare, value-bare, cycle-bare, width-bare, needs-bare}
use Rattle.mufom_debug_laws.proofs.Values.{commons-bare, common-names-bare}
use Rattle.mufom_debug_laws.proofs.Steps.{steps-bare, readings-after-bare, steps-fact-bare, public-facts-bare, start-trees-bare}
use Rattle.mufom_debug_laws.proofs.Steps.{start-facts-bare, no-debug-trees}
use Rattle.mufom_debug_laws.proofs.Plain.{beyond, plain-if, plain-mapped, plain-first, plain-steps, plain-zero, no-debug-facts}

-- ---- meanings

public-readings-bare : (s : Setting) (qs : List SitedPublic) → map (public_reading (bare_setting s)) (map bare_public qs) ≡ map (public_reading s) qs
public-readings-bare s [] = refl
public-readings-bare s (q ∷ qs) = λ i. record { name = q.entry.name; notes = q.entry.notes; value = value-bare s q.site None q.entry.value i }
    ∷ public-readings-bare s qs i

module _ (ms : List Parts) (bases : Bases) where
  abbrev own : Setting
  own = setting ms bases

  abbrev there : Setting
  there = setting (all_without_debug ms) bases

  publics-read : map (public_reading there) there.publics ≡ map (public_reading own) own.publics
  publics-read = ap (λ (s : Setting). map (public_reading s) s.publics) (setting-bare ms bases) ∙ public-readings-bare own own.publics

  steps-read : step_readings there (steps (all_without_debug ms)) ≡ step_readings own (steps ms)
  steps-read = (λ i. step_readings (setting-bare ms bases i) (steps-bare ms i)) ∙ readings-after-bare own [] (steps ms)

  starts-read : flat_map (λ site. map (value there site None) (option_to_list site.parts.start)) (sited (all_without_debug ms))
      ≡ flat_map (λ site. map (value own site None) (option_to_list site.parts.start)) (sited ms)
  starts-read = (λ i. flat_map (λ site. map (value (setting-bare ms bases i) site None) (option_to_list site.parts.start)) (sited-bare ms i))
      ∙ flat-sites (λ site. map (value (bare_setting own) site None) (option_to_list site.parts.start))
      (λ site. map (value own site None) (option_to_list site.parts.start))
      (λ site i. map (λ t. value-bare own site None t i) (option_to_list site.parts.start)) (sited ms)

  marks-read : flat_map (λ site. map (mark_reading there site) (marks_of site.parts.debug)) (sited (all_without_debug ms)) ≡ []
  marks-read = ap (λ places. flat_map (λ site. map (mark_reading there site) (marks_of site.parts.debug)) places) (sited-bare ms)
      ∙ no-entries (λ site. map (mark_reading there site) (marks_of site.parts.debug)) (λ site. refl) (sited ms)

pub readings-lose-debug-alone : ReadingsLoseDebugAlone
unfolding readings
readings-lose-debug-alone ms bases = λ i. record {
  sections = sections-bare ms i;
  publics = publics-read ms bases i;
  steps = steps-read ms bases i;
  starts = starts-read ms bases i;
  debug = marks-read ms bases i;
  needs = needs-bare ms i;
  commons = commons-bare ms i;
}

-- ---- placing

common-sections-bare : (ms : List Parts) → common_sections (all_without_debug ms) ≡ common_sections ms
common-sections-bare ms = λ i. map (common_section (commons-bare ms i)) (distinct bytes_eq (common-names-bare ms i))

pub placed-bare : (ms : List Parts) (plan : Plan) → placed_commons (all_without_debug ms) plan ≡ placed_commons ms plan
placed-bare ms plan = λ i. cond (has_common plan.regions) (common-sections-bare ms i) []

base-list-bare : (ms : List Parts) (plan : Plan) → base_list (all_without_debug ms) plan ≡ base_list ms plan
base-list-bare ms plan = λ i. placing.bases plan (sections-bare ms i) (placed-bare ms plan i)

planned-bare : (ms : List Parts) (plan : Plan) → planned_bases (all_without_debug ms) plan ≡ planned_bases ms plan
planned-bare ms plan = λ i. record {
  sections = take (length (sections-bare ms i)) (base-list-bare ms plan i);
  commons = base_named (placed-bare ms plan i) (drop (length (sections-bare ms i)) (base-list-bare ms plan i));
}

located-sections-bare : (ms : List Parts) (plan : Plan) → located_sections (all_without_debug ms) plan ≡ located_sections ms plan
located-sections-bare ms plan = λ i. placed_sections (base-list-bare ms plan i) (sections-bare ms i ++ placed-bare ms plan i)

-- ---- the fact that is returned

-- the number of bytes that a module loads
abbrev loaded_by : Parts → ℕ
loaded_by m = lengths_loaded m.loads

total-bare : (ms : List Parts) → loaded_total (all_without_debug ms) ≡ loaded_total ms
total-bare [] = refl
total-bare (m ∷ ms) = sum_by-cons loaded_by (without_debug m) (all_without_debug ms) ∙ ap (λ n. loaded_by m + n) (total-bare ms)
    ∙ sym (sum_by-cons loaded_by m ms)

-- the facts in their order
module _ (ms : List Parts) (plan : Plan) where
  abbrev s : Setting
  s = setting ms (planned_bases ms plan)

  abbrev placing_fact : Option LocateFact
  placing_fact = option_map placement (place_refusal (width ms) plan (flat_sections ms) (placed_commons ms plan))

  abbrev undefined_fact : Option LocateFact
  undefined_fact = option_map undefined (first_undefined ms)

  abbrev unplaced_fact : Option LocateFact
  unplaced_fact = option_map common_unplaced (first_unplaced_common ms plan)

  abbrev cycle_fact : Option LocateFact
  cycle_fact = first_some (cycle_at ms) (public_names ms)

  abbrev limit_fact : Option LocateFact
  limit_fact = image_limit_at (loaded_total ms)

  abbrev publics_fact : Option LocateFact
  publics_fact = first_some (public_fact s) s.publics

  abbrev walk_fact : Option LocateFact
  walk_fact = steps_fact s [] (steps ms)

  abbrev starts_fact : Option LocateFact
  starts_fact = first_some (start_fact s) (start_trees ms)

  abbrev debug_facts : Option LocateFact
  debug_facts = first_some (debug_fact s) (enumerate_from 0 (debug_trees ms))

  -- the facts of the walk, of its steps, and of the starts, before this one
  abbrev starts_before : Option LocateFact → Option LocateFact
  starts_before last = starts_fact or_else last

  abbrev steps_before : Option LocateFact → Option LocateFact
  steps_before last = walk_fact or_else starts_before last

  abbrev walked_before : Option LocateFact → Option LocateFact
  walked_before last = publics_fact or_else steps_before last

  -- all facts before this one
  abbrev limit_before : Option LocateFact → Option LocateFact
  limit_before last = limit_fact or_else walked_before last

  abbrev cycle_before : Option LocateFact → Option LocateFact
  cycle_before last = cycle_fact or_else limit_before last

  abbrev unplaced_before : Option LocateFact → Option LocateFact
  unplaced_before last = unplaced_fact or_else cycle_before last

  abbrev undefined_before : Option LocateFact → Option LocateFact
  undefined_before last = undefined_fact or_else unplaced_before last

  abbrev all_before : Option LocateFact → Option LocateFact
  all_before last = placing_fact or_else undefined_before last

  starts-stay : fact_without_debug (starts_before debug_facts) ≡ starts_before None
  starts-stay = beyond starts_fact debug_facts None (plain-first (start_fact s) (λ e. plain-zero s e.0 None e.1 sites.Start refl) (start_trees ms))
      (no-debug-facts s (enumerate_from 0 (debug_trees ms)))

  steps-stay : fact_without_debug (steps_before debug_facts) ≡ steps_before None
  steps-stay = beyond walk_fact (starts_before debug_facts) (starts_before None) (plain-steps s [] (steps ms)) starts-stay

  walked-stay : fact_without_debug (walked_before debug_facts) ≡ walked_before None
  walked-stay = beyond publics_fact (steps_before debug_facts) (steps_before None)
      (plain-first (public_fact s) (λ q. plain-zero s q.site None q.entry.value (sites.Public q.entry.name) refl) s.publics) steps-stay

  limit-stays : fact_without_debug (limit_before debug_facts) ≡ limit_before None
  limit-stays = beyond limit_fact (walked_before debug_facts) (walked_before None)
      (plain-if (nat_lt MOST_IMAGE_BYTES (loaded_total ms)) (image_limit (loaded_total ms)) refl) walked-stay

  cycle-stays : fact_without_debug (cycle_before debug_facts) ≡ cycle_before None
  cycle-stays = beyond cycle_fact (limit_before debug_facts) (limit_before None)
      (plain-first (cycle_at ms) (λ name. plain-if (is_on_cycle ms name) (cycle name) refl) (public_names ms)) limit-stays

  unplaced-stays : fact_without_debug (unplaced_before debug_facts) ≡ unplaced_before None
  unplaced-stays = beyond unplaced_fact (cycle_before debug_facts) (cycle_before None)
      (plain-mapped common_unplaced (λ name. refl) (first_unplaced_common ms plan)) cycle-stays

  undefined-stays : fact_without_debug (undefined_before debug_facts) ≡ undefined_before None
  undefined-stays = beyond undefined_fact (unplaced_before debug_facts) (unplaced_before None)
      (plain-mapped undefined (λ name. refl) (first_undefined ms)) unplaced-stays

  all-stay : fact_without_debug (all_before debug_facts) ≡ all_before None
  all-stay = beyond placing_fact (undefined_before debug_facts) (undefined_before None)
      (plain-mapped placement (λ r. refl) (place_refusal (width ms) plan (flat_sections ms) (placed_commons ms plan))) undefined-stays

  abbrev bare : List Parts
  bare = all_without_debug ms

  setting-there : setting bare (planned_bases bare plan) ≡ bare_setting s
  setting-there = ap (setting bare) (planned-bare ms plan) ∙ setting-bare ms (planned_bases ms plan)

  steps-there : steps_fact (bare_setting s) [] (steps bare) ≡ walk_fact
  steps-there = ap (steps_fact (bare_setting s) []) (steps-bare ms) ∙ steps-fact-bare s [] (steps ms)

  starts-there : first_some (start_fact (bare_setting s)) (start_trees bare) ≡ starts_fact
  starts-there = ap (first_some (start_fact (bare_setting s))) (start-trees-bare ms) ∙ start-facts-bare s (start_trees ms)

  walk-there : walk_answer bare (setting bare (planned_bases bare plan)) ≡ walked_before None
  walk-there = ap (walk_answer bare) setting-there ∙ (λ i. public-facts-bare s s.publics i or_else (steps-there i or_else (starts-there i
      or_else first_some (debug_fact (bare_setting s)) (enumerate_from 0 (no-debug-trees ms i)))))

  undefined-there : first_undefined bare ≡ first_undefined ms
  undefined-there = λ i. find (λ name. not (has_name (common-names-bare ms i) name)) (needs-bare ms i)

  unplaced-there : first_unplaced_common bare plan ≡ first_unplaced_common ms plan
  unplaced-there = λ i. cond (has_common plan.regions) None (slice_get (common-names-bare ms i) 0)

  cycles-there : first_some (cycle_at bare) (public_names bare) ≡ cycle_fact
  cycles-there = λ i. first_some (λ name. cond (cycle-bare ms name i) (Some (cycle name)) None) (names-bare ms i)

  all-there : locate_answer bare plan ≡ all_before None
  all-there = locate_answer-order bare plan
      ∙ (λ i. option_map placement (place_refusal (width-bare ms i) plan (sections-bare ms i) (placed-bare ms plan i))
      or_else (option_map undefined (undefined-there i) or_else (option_map common_unplaced (unplaced-there i)
      or_else (cycles-there i or_else (image_limit_at (total-bare ms i) or_else walk-there i)))))

  pub later-there : after_placing bare plan ≡ fact_without_debug (after_placing ms plan)
  later-there = (λ i. option_map undefined (undefined-there i) or_else (option_map common_unplaced (unplaced-there i)
      or_else (cycles-there i or_else (image_limit_at (total-bare ms i) or_else walk-there i)))) ∙ sym undefined-stays

  answer-there : locate_answer bare plan ≡ fact_without_debug (locate_answer ms plan)
  answer-there = all-there ∙ sym (ap fact_without_debug (locate_answer-order ms plan) ∙ all-stay)

-- ---- locations

pub first-header-bare : (ms : List Parts) → first_header (all_without_debug ms) ≡ first_header ms
first-header-bare [] = refl
first-header-bare (m ∷ ms) = refl

module _ (ms : List Parts) (plan : Plan) where
  pub planned-readings : readings (all_without_debug ms) (planned_bases (all_without_debug ms) plan)
      ≡ readings_without_debug (readings ms (planned_bases ms plan))
  planned-readings = ap (readings (all_without_debug ms)) (planned-bare ms plan) ∙ readings-lose-debug-alone ms (planned_bases ms plan)

  cells-bare : (r : LocatedParts)
      → address_map r.order (2 ^ width (all_without_debug ms)) (readings (all_without_debug ms) (planned_bases (all_without_debug ms) plan)).steps
      ≡ address_map r.order (2 ^ width ms) (readings ms (planned_bases ms plan)).steps
  cells-bare r = λ i. address_map r.order (2 ^ width-bare ms i) (planned-readings i).steps

  pub location-bare : (r : LocatedParts) → IsLocation ms plan r → IsLocation (all_without_debug ms) plan (located_without_debug r)
  location-bare r is = record {
    links = answer-bare ms ∙ is.links;
    locates = answer-there ms plan ∙ ap fact_without_debug is.locates;
    first = first-header-bare ms ∙ is.first;
    sections = is.sections ∙ sym (located-sections-bare ms plan);
    publics = is.publics ∙ sym (ap (λ (q : Readings). q.publics) planned-readings);
    start = is.start ∙ sym (ap (λ (q : Readings). q.starts) planned-readings);
    debug = sym (ap (λ (q : Readings). map located_mark q.debug) planned-readings);
    rows = subst (λ (cells : List Cell). AreRunsOf cells r.runs) (sym (cells-bare r)) is.rows;
  }

pub locations-lose-debug-alone : LocationsLoseDebugAlone
locations-lose-debug-alone ms plan = record {
  answer = answer-there ms plan;
  location = location-bare ms plan;
  only = λ r other is also. location_is_single (all_without_debug ms) plan other (located_without_debug r) also (location-bare ms plan r is);
  absolute = λ r. refl;
}
