-- The location of a list by a plan, with copies, is sound.
use Rattle.std.proofs.Common.{◌≡◌, ℕ, zero, suc, ◌+◌, ◌≤◌, ◌⊎◌, inl, inr, List, [], ◌∷◌, ◌++◌, length, Some, None, false}
use Rattle.std.proofs.Common.{refl, sym, ◌∙◌, ap, subst, arith, zero-add, length-append}
use Rattle.std.specs.Prelude.{slice_get}
use Rattle.std.specs.List.{enumerate_from}
use Rattle.std.proofs.lemmas.List.{length-map}
use Rattle.std.proofs.lemmas.List.FromFn.{length-enumerate_from}
use Rattle.std.proofs.lemmas.List.Sums.{sum_by-cons}
use Rattle.mufom_numbers.specs.declared.limits.TheConstants.{MOST_PLAN_BYTES}
use Rattle.mufom_numbers.proofs.Choices.{not_lt}
use Rattle.mufom_sections.specs.declared.section.Section.{Section}
use Rattle.mufom_module.specs.declared.module.Order.{Order}
use Rattle.mufom_module.specs.declared.module.Parts.{Parts}
use Rattle.mufom_module.specs.Defects.{is_long, has_bad_alignment}
use Rattle.mufom_plan.specs.declared.plan.Region.{Region}
use Rattle.mufom_plan.specs.declared.plan.Plan.{Plan}
use Rattle.mufom_place.specs.declared.placing.RegionCopy.{RegionCopy}
use Rattle.mufom_place.specs.Bases.{Numbered, numbered}
use Rattle.mufom_place.specs.Copies.{copy_sections}
use Rattle.mufom_place.specs.Facts.{place_refusal}
use Rattle.mufom_meaning.specs.declared.located.LocatedParts.{LocatedParts}
use Rattle.mufom_meaning.specs.Flat.{flat_sections, width}
use Rattle.mufom_meaning.specs.Counts.{loaded_total}
use Rattle.mufom_meaning.specs.Placed.{placed_commons, planned_bases}
use Rattle.mufom_meaning.specs.Values.{Setting, setting}
use Rattle.mufom_meaning.specs.Steps.{steps, StepReading, readings_after}
use Rattle.mufom_meaning.specs.Readings.{readings}
use Rattle.mufom_meaning.specs.AddressMap.{Cell, run_cells, step_cells, address_map}
use Rattle.mufom_meaning.specs.Location.{placed_section}
use Rattle.mufom_meaning.specs.LinkAnswer.{link_answer}
use Rattle.mufom_meaning.specs.LocateAnswer.{locate_answer}
use Rattle.mufom_meaning.specs.Staging.{AreValid}
use Rattle.mufom_meaning.specs.Absolute.{no_regions}
use Rattle.mufom_meaning.proofs.Tests.{get_enumerate}
use Rattle.mufom_meaning.proofs.Members.{In, In-at, at-In, In-append, map-In, In-Contains, Contains-In, In-flat_map, flat_map-In}
use Rattle.mufom_meaning.proofs.facts.StepCounts.{counts_agree}
use Rattle.mufom_meaning.proofs.absolute.Cells.{absolute_cells, section_cells, cell_section, apart_own}
use Rattle.mufom_meaning.proofs.absolute.Counts.{cells_count, fewer}
use Rattle.mufom_meaning.proofs.absolute.Sound.{IsPlainSection, IsAbsoluteSection, IsSoundLocation, sections_plain}
use Rattle.mufom_planned.specs.Layout.{Layout, layout, whole_list, layout_bases}
use Rattle.mufom_planned.specs.Planned.{copied_answer, reading_section, moved_cell, moved_cells, load_map, HasLocation}
use Rattle.mufom_planned.specs.PlanLaws.{regions_size}
use Rattle.mufom_planned.proofs.Copied.{copy_of}
use Rattle.mufom_planned.proofs.Loaded.{base_of, LiesAt, HasLoadPlace, cell_loads}
use Rattle.mufom_planned.proofs.Apart.{placed_fit, placed_get, get_placed}
use Rattle.mufom_planned.proofs.PlacedAgain.{section_at}

-- as many bytes are loaded, wherever they are loaded
as_many : (l : Layout) (order : Order) (modulus : ℕ) (xs : List StepReading) → length (load_map l order modulus xs) ≡ length (address_map order modulus xs)
as_many l order modulus [] = refl
as_many l order modulus (x ∷ xs) =
    let own = length-map (step_cells order modulus x) (moved_cell l (reading_section x)) in
    let rest = as_many l order modulus xs in
    length-append (moved_cells l order modulus x) (load_map l order modulus xs) ∙ (λ i. own i + rest i)
    ∙ sym (length-append (step_cells order modulus x) (address_map order modulus xs))

-- the name of a region is a string, if the names are no longer together than a plan
short_region : (regions : List Region) (n : ℕ) (region : Region) → regions_size regions ≤ MOST_PLAN_BYTES → slice_get regions n ≡ Some region
    → is_long region.name ≡ false
short_region [] n region few e = absurd cc
short_region (first ∷ regions) zero region few e =
    let same : first ≡ region = cc in
    let all = sum_by-cons (λ (x : Region). length x.name + 1) first regions in
    ap (λ (x : Region). is_long x.name) (sym same) ∙ not_lt 65535 (length first.name) (omega (arith, all, few))
short_region (first ∷ regions) (suc n) region few e =
    let all = sum_by-cons (λ (x : Region). length x.name + 1) first regions in
    short_region regions n region (omega (arith, all, few)) e

module _ (m : Parts) (more : List Parts) (plan : Plan) (r : LocatedParts) (v : AreValid (m ∷ more)) (links : link_answer (m ∷ more) ≡ None)
    (locates : locate_answer (m ∷ more) plan ≡ None) (answer : copied_answer (m ∷ more) plan ≡ None) (h : HasLocation (m ∷ more) plan r) where
  abbrev ms : List Parts
  ms = m ∷ more

  abbrev l : Layout
  l = layout ms plan

  abbrev whole : List Section
  whole = whole_list l

  abbrev f : Numbered → ℕ
  f = base_of ms plan v links locates

  abbrev s : Setting
  s = setting ms (planned_bases ms plan)

  -- ---- the sections

  pub counted : length r.sections ≡ length (flat_sections ms) + length (placed_commons ms plan) + length l.copied
  counted =
      ap length h.sections ∙ length-map (numbered whole) (placed_section (layout_bases l)) ∙ length-enumerate_from 0 whole
      ∙ length-append (flat_sections ms ++ placed_commons ms plan) (copy_sections l.copied)
      ∙ (λ i. length-append (flat_sections ms) (placed_commons ms plan) i + length-map l.copied (λ (c : RegionCopy). c.section) i)

  -- a section of the location is one of all that is placed
  source : (section : Section) → In section r.sections → (n : ℕ) × (x : Section) × (slice_get whole n ≡ Some x) × (section_at f (n, x) ≡ section)
  source section k =
      let there = at-In section r.sections k in
      let own = get_placed ms plan v links locates answer there.0 section (ap (λ sections. slice_get sections there.0) (sym h.sections) ∙ there.1) in
      (there.0, own.0, own.1, own.2)

  absolute : (section : Section) → In section r.sections → IsAbsoluteSection section
  absolute section k =
      let there = source section k in
      record {
        base = f (there.0, there.1);
        based = ap (λ (x : Section). x.base) (sym there.3);
        absolute = ap (λ (x : Section). x.absolute) (sym there.3);
      }

  -- ---- the cells

  abbrev numbered_sections : List (ℕ × Section)
  numbered_sections = enumerate_from 0 r.sections

  pub lies_in : (place : ℕ) (cell : Cell) → LiesAt ms plan v links locates place cell.0 → In cell (run_cells r.runs)
      → In cell (absolute_cells r.runs numbered_sections)
  lies_in place cell lies k =
      let x = section_at f (place, lies.section) in
      let found : slice_get numbered_sections place ≡ Some (place, x) = get_enumerate 0 r.sections place x
      (ap (λ sections. slice_get sections place) h.sections ∙ placed_get ms plan v links locates answer place lies.section lies.found)
      ∙ (let same = zero-add place in λ i. Some (same i, x)) in
      In-flat_map (section_cells r.runs) (place, x) cell numbered_sections (In-at (place, x) numbered_sections place found)
      (cell_section r.runs (place, x) cell k (f (place, lies.section), refl, lies.low, lies.high))

  abbrev map_there : List Cell
  map_there = load_map l r.order s.modulus (readings_after s [] (steps ms))

  pub in_map : (cell : Cell) → In cell (run_cells r.runs) → In cell map_there
  unfolding readings
  in_map cell k = Contains-In cell map_there ((h.rows.same cell).1 (In-Contains cell (run_cells r.runs) k))

  -- where a byte of the location is loaded
  pub record HasOrigin (cell : Cell) : Type 0 where
    pub n : ℕ
    pub from : ℕ
    pub loads : HasLoadPlace ms plan v links locates n from cell.0

  pub origin : (cell : Cell) → In cell map_there → HasOrigin cell
  origin cell k =
      let step = flat_map-In (moved_cells l r.order s.modulus) cell (readings_after s [] (steps ms)) k in
      let n = reading_section step.0 in
      let own = map-In (moved_cell l n) cell (step_cells r.order s.modulus step.0) step.2 in
      record {
        n = n;
        from = own.0.0;
        loads = subst (λ (c : Cell). HasLoadPlace ms plan v links locates n own.0.0 c.0) own.2
            (cell_loads ms plan v links locates r.order step.0 step.1 own.0 own.1);
      }

  few_cells : length (run_cells r.runs) ≤ loaded_total ms
  few_cells =
      let few = fewer (run_cells r.runs) map_there (apart_own r.runs h.rows.apart) in_map in
      let same = as_many l r.order s.modulus (readings_after s [] (steps ms)) in
      let count = cells_count r.order s [] (steps ms) in
      let all = counts_agree ms v in
      omega (arith, few, same, count, all)

  pub sound : IsSoundLocation ms plan r
  sound = record {
    links = links;
    locates = locates;
    first = h.first;
    publics = h.publics;
    start = h.start;
    debug = h.debug;
    enough = (let count = counted in omega (arith, count));
    absolute = absolute;
    fits = ap (λ sections. place_refusal (width ms) no_regions sections []) h.sections ∙ placed_fit ms plan v links locates answer;
    apart = h.rows.apart;
    inside = λ cell k. let o = origin cell (in_map cell k) in lies_in o.loads.place cell o.loads.lies k;
    few = few_cells;
  }

  -- ---- names and alignments

  copy_plain : regions_size plan.regions ≤ MOST_PLAN_BYTES → (section : Section) → In section (copy_sections l.copied) → IsPlainSection section
  copy_plain few section k =
      let own = map-In (λ (c : RegionCopy). c.section) section l.copied k in
      let of = copy_of plan.regions _ _ 0 plan.regions own.0 own.1 in
      let same = sym own.2 ∙ of.section in
      record {
        short = ap (λ (x : Section). is_long x.name) same ∙ short_region plan.regions of.place of.region few of.found;
        aligned = ap (λ (x : Section). has_bad_alignment x) same;
      }

  pub plain : regions_size plan.regions ≤ MOST_PLAN_BYTES → (section : Section) → In section r.sections → IsPlainSection section
  plain few section k =
      let there = source section k in
      let among = In-at there.1 whole there.0 there.2 in
      let base = by_case there.1 (In-append there.1 (flat_sections ms ++ placed_commons ms plan) (copy_sections l.copied) among) in
      record {
        short = ap (λ (x : Section). is_long x.name) (sym there.3) ∙ base.short;
        aligned = ap (λ (x : Section). has_bad_alignment x) (sym there.3) ∙ base.aligned;
      }
    where
      by_case : (x : Section) → In x (flat_sections ms ++ placed_commons ms plan) ⊎ In x (copy_sections l.copied) → IsPlainSection x
      by_case x (inl k) = sections_plain ms v plan x k
      by_case x (inr k) = copy_plain few x k
