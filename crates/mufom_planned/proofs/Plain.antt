-- A plan without symbols, all of whose regions are loaded where they are, means what it means without symbols and copies.
use Rattle.std.proofs.Common.{◌≡◌, ℕ, ◌+◌, List, [], ◌∷◌, ◌++◌, map, Option, Some, None, refl, ap, sym, ◌∙◌, subst}
use Rattle.std.specs.Prelude.{option_map, option_and_then, slice_get, filter, ◌^◌}
use Rattle.std.proofs.lemmas.List.{append-nil}
use Rattle.mufom_sections.specs.declared.section.Section.{Section}
use Rattle.mufom_module.specs.declared.module.Order.{Order}
use Rattle.mufom_module.specs.declared.module.Parts.{Parts}
use Rattle.mufom_plan.specs.declared.plan.Region.{Region}
use Rattle.mufom_plan.specs.declared.plan.Plan.{Plan}
use Rattle.mufom_plan.specs.Names.{listed_names, region_position}
use Rattle.mufom_place.specs.declared.placing.Placing.{Placing}
use Rattle.mufom_place.specs.Bases.{numbered, placings, placing_of, site_by, bases}
use Rattle.mufom_place.specs.Facts.{◌or_else◌, first_some, unplaced_at, misfit_by, first_overlap, in_order, extents, place_refusal}
use Rattle.mufom_place.specs.Copies.{ends_in, copy_with, copies_from, copies, all_sections, all_bases, all_refusal}
use Rattle.mufom_meaning.specs.declared.located.LocatedParts.{LocatedParts}
use Rattle.mufom_meaning.specs.Flat.{flat_sections, width}
use Rattle.mufom_meaning.specs.Placed.{placed_commons, planned_bases}
use Rattle.mufom_meaning.specs.Readings.{readings}
use Rattle.mufom_meaning.specs.Steps.{StepReading}
use Rattle.mufom_meaning.specs.Facts.{LocateFact, placement}
use Rattle.mufom_meaning.specs.LinkAnswer.{link_answer}
use Rattle.mufom_meaning.specs.LocateAnswer.{locate_answer, after_placing}
use Rattle.mufom_meaning.specs.Location.{IsLocation, placed_sections}
use Rattle.mufom_meaning.specs.AddressMap.{Cell, AreRunsOf, step_cells, address_map}
use Rattle.mufom_planned.specs.Layout.{Layout, layout, layout_bases, layout_placings, whole_list, has_bytes, move_of, move_from, section_move, moved_to}
use Rattle.mufom_planned.specs.PlanSymbols.{with_symbols}
use Rattle.mufom_planned.specs.Planned.{of_list, copied_answer, planned_answer, moved_cell, load_map, HasLocation, IsPlanned, reading_section}
use Rattle.mufom_planned.specs.PlanLaws.{AreLoadedInPlace, PlainPlansMeanTheSame}

-- ---- there is no copy

pub none_from : (all : List Region) (sections : List Section) (loaded : List Placing) (n : ℕ) (regions : List Region) → AreLoadedInPlace regions
    → copies_from all sections loaded n regions ≡ []
none_from all sections loaded n [] none = refl
none_from all sections loaded n (region ∷ regions) none =
    ap (λ load. copy_with n region (option_and_then (region_position all) load) (ends_in sections n loaded)
    ++ copies_from all sections loaded (n + 1) regions) none.0
    ∙ none_from all sections loaded (n + 1) regions none.1

module _ (plan : Plan) (sections commons : List Section) where
  plain_sections : all_sections sections commons [] ≡ sections ++ commons
  plain_sections = append-nil (sections ++ commons)

  pub plain_bases : all_bases plan sections commons [] ≡ bases plan sections commons
  plain_bases = λ i. map (λ s. (site_by (placings plan sections commons) s).base) (numbered (plain_sections i))

  pub plain_refusal : (width : ℕ) → all_refusal width plan sections commons [] ≡ place_refusal width plan sections commons
  plain_refusal width = λ i. first_some (unplaced_at (listed_names plan.regions)) (numbered sections)
      or_else (first_some (misfit_by (2 ^ width) plan.regions (placings plan sections commons)) (numbered (plain_sections i))
      or_else first_overlap (in_order (extents (numbered (plain_sections i)) (plain_bases i))))

-- ---- no byte moves

module _ (plan : Plan) (sections commons : List Section) where
  abbrev l : Layout
  l = record { plan = plan; sections = sections; commons = commons; copied = [] }

  nothing_moves : (section : ℕ) → section_move l section ≡ None
  nothing_moves section = by_placing (placing_of (layout_placings l) section) where
    by_region : (n : ℕ) (o : Option Region) → option_and_then (λ region. move_of l (n, region)) o ≡ None
    by_region n None = refl
    by_region n (Some region) = refl

    by_placing : (o : Option Placing) → option_and_then (λ p. move_from l p.region) o ≡ None
    by_placing None = refl
    by_placing (Some p) = by_region p.region (slice_get plan.regions p.region)

  same_cells : (section : ℕ) (cells : List Cell) → map (moved_cell l section) cells ≡ cells
  same_cells section [] = refl
  same_cells section (cell ∷ cells) = λ i. (moved_to (nothing_moves section i) cell.0, cell.1) ∷ same_cells section cells i

  pub plain_map : (order : Order) (modulus : ℕ) (steps : List StepReading) → load_map l order modulus steps ≡ address_map order modulus steps
  plain_map order modulus [] = refl
  plain_map order modulus (step ∷ steps) =
      λ i. same_cells (reading_section step) (step_cells order modulus step) i ++ plain_map order modulus steps i

-- ---- the same facts and locations

module _ (ms : List Parts) (plan : Plan) (loads : AreLoadedInPlace plan.regions) where
  no_copies : copies plan (flat_sections ms) (placed_commons ms plan) (has_bytes ms) ≡ []
  no_copies = none_from plan.regions (flat_sections ms ++ placed_commons ms plan) (filter (λ p. has_bytes ms p.section)
      (placings plan (flat_sections ms) (placed_commons ms plan))) 0 plan.regions loads

  pub plain_answer : copied_answer ms plan ≡ locate_answer ms plan
  unfolding locate_answer
  plain_answer =
      ap (λ copied. option_map placement (all_refusal (width ms) plan (flat_sections ms) (placed_commons ms plan) copied) or_else after_placing ms plan)
      no_copies
      ∙ ap (λ refusal. option_map placement refusal or_else after_placing ms plan) (plain_refusal plan (flat_sections ms) (placed_commons ms plan) (width ms))

  pub plain_layout : layout ms plan ≡ l plan (flat_sections ms) (placed_commons ms plan)
  plain_layout = λ i. record { plan = plan; sections = flat_sections ms; commons = placed_commons ms plan; copied = no_copies i }

  same_sections : placed_sections (layout_bases (layout ms plan)) (whole_list (layout ms plan))
      ≡ placed_sections (bases plan (flat_sections ms) (placed_commons ms plan)) (flat_sections ms ++ placed_commons ms plan)
  same_sections =
      ap (λ (own : Layout). placed_sections (layout_bases own) (whole_list own)) plain_layout
      ∙ (λ i. placed_sections (plain_bases plan (flat_sections ms) (placed_commons ms plan) i) (append-nil (flat_sections ms ++ placed_commons ms plan) i))

  same_map : (order : Order) → load_map (layout ms plan) order (2 ^ width ms) (readings ms (planned_bases ms plan)).steps
      ≡ address_map order (2 ^ width ms) (readings ms (planned_bases ms plan)).steps
  same_map order =
      ap (λ (own : Layout). load_map own order (2 ^ width ms) (readings ms (planned_bases ms plan)).steps) plain_layout
      ∙ plain_map plan (flat_sections ms) (placed_commons ms plan) order (2 ^ width ms) (readings ms (planned_bases ms plan)).steps

  pub to_location : (r : LocatedParts) → link_answer ms ≡ None → locate_answer ms plan ≡ None → HasLocation ms plan r → IsLocation ms plan r
  to_location r links locates h = record {
    links = links;
    locates = locates;
    first = h.first;
    sections = h.sections ∙ same_sections;
    publics = h.publics;
    start = h.start;
    debug = h.debug;
    rows = subst (λ cells. AreRunsOf cells r.runs) (same_map r.order) h.rows;
  }

  pub of_location : (r : LocatedParts) → IsLocation ms plan r → HasLocation ms plan r
  of_location r h = record {
    first = h.first;
    sections = h.sections ∙ sym same_sections;
    publics = h.publics;
    start = h.start;
    debug = h.debug;
    rows = subst (λ cells. AreRunsOf cells r.runs) (sym (same_map r.order)) h.rows;
  }

-- without symbols the list stays as it is, and no name is shared
abbrev without : Plan → Plan
without plan = record { regions = plan.regions; symbols = []; keep = plan.keep }

list_stays : (ms : List Parts) (plan : Plan) → with_symbols ms (without plan) ≡ ms
list_stays [] plan = refl
list_stays (m ∷ ms) plan = refl

module _ (ms : List Parts) (plan : Plan) (loads : AreLoadedInPlace plan.regions) where
  abbrev bare : Plan
  bare = without plan

  bare_answer : planned_answer ms bare ≡ option_map of_list (locate_answer ms bare)
  bare_answer = ap (λ all. option_map of_list (copied_answer all bare)) (list_stays ms plan) ∙ ap (option_map of_list) (plain_answer ms bare loads)

  of_none : (o : Option LocateFact) → option_map of_list o ≡ None → o ≡ None
  of_none None e = refl
  of_none (Some fact) e = absurd cc

  there : (r : LocatedParts) → IsPlanned ms bare r → IsLocation ms bare r
  there r h =
      to_location ms bare loads r h.links (of_none (locate_answer ms bare) (sym bare_answer ∙ h.locates))
      (subst (λ all. HasLocation all bare r) (list_stays ms plan) h.located)

  back : (r : LocatedParts) → IsLocation ms bare r → IsPlanned ms bare r
  back r h = record {
    links = h.links;
    locates = bare_answer ∙ ap (option_map of_list) h.locates;
    located = subst (λ all. HasLocation all bare r) (sym (list_stays ms plan)) (of_location ms bare loads r h);
  }

pub plain_plans_mean_the_same : PlainPlansMeanTheSame
plain_plans_mean_the_same ms plan none loads =
    let same : without plan ≡ plan = λ i. record { regions = plan.regions; symbols = sym none i; keep = plan.keep } in
    subst (λ (p : Plan). (planned_answer ms p ≡ option_map of_list (locate_answer ms p)) × ((r : LocatedParts)
    → (IsPlanned ms p r → IsLocation ms p r) × (IsLocation ms p r → IsPlanned ms p r))) same
    (bare_answer ms plan loads, λ r. (there ms plan loads r, back ms plan loads r))
