-- The location of a list is sound: its sections fit where they are, and have all loaded bytes.
use Rattle.std.proofs.Common.{◌≡◌, ◌≢◌, ◌++◌, Bool, false, ℕ, ◌+◌, ◌<◌, ◌≤◌, inr, List, [], ◌∷◌, length, Some, None, true, refl, sym}
use Rattle.std.proofs.Common.{◌∙◌, ap, arith, zero-add}
use Rattle.std.specs.Prelude.{slice_get, unwrap_or, nat_lt}
use Rattle.std.specs.List.{enumerate_from}
use Rattle.mufom_sections.specs.declared.section.Section.{Section}
use Rattle.mufom_module.specs.declared.module.Parts.{Parts}
use Rattle.mufom_module.specs.Defects.{is_long, has_bad_alignment}
use Rattle.mufom_plan.specs.declared.plan.Plan.{Plan}
use Rattle.mufom_place.specs.Bases.{site_of}
use Rattle.mufom_place.specs.Facts.{Covers, place_refusal}
use Rattle.mufom_meaning.specs.Readings.{readings}
use Rattle.mufom_meaning.specs.declared.located.LocatedParts.{LocatedParts}
use Rattle.mufom_meaning.specs.LinkAnswer.{link_answer}
use Rattle.mufom_meaning.specs.LocateAnswer.{locate_answer}
use Rattle.mufom_meaning.specs.Flat.{flat_sections, width}
use Rattle.mufom_meaning.specs.Values.{Setting, setting}
use Rattle.mufom_meaning.specs.Counts.{loaded_total}
use Rattle.mufom_meaning.specs.Steps.{steps, readings_after}
use Rattle.mufom_meaning.specs.Walk.{base_number}
use Rattle.mufom_meaning.specs.AddressMap.{Cell, run_cells, address_map}
use Rattle.mufom_meaning.specs.Placed.{placed_commons, extended_sections, planned_bases}
use Rattle.mufom_meaning.specs.Location.{IsLocation}
use Rattle.mufom_meaning.specs.Facts.{placement, load_outside, loaded_twice}
use Rattle.mufom_meaning.specs.Stands.{StandsInWalk}
use Rattle.mufom_meaning.specs.Staging.{AreValid}
use Rattle.mufom_meaning.specs.Absolute.{no_regions}
use Rattle.mufom_numbers.proofs.Choices.{some_same, mapped_none, of_lt, of_not_lt}
use Rattle.mufom_meaning.proofs.Names.{get-prefix}
use Rattle.mufom_meaning.proofs.Placed.{planned_get, located_count}
use Rattle.mufom_meaning.proofs.Members.{In, In-at, at-In, Contains-In, In-Contains, In-flat_map}
use Rattle.mufom_meaning.proofs.Tests.{enumerate_get, get_enumerate}
use Rattle.mufom_meaning.proofs.facts.Answers.{or_else_none}
use Rattle.mufom_meaning.proofs.facts.AllAnswers.{answers_are_facts}
use Rattle.mufom_meaning.proofs.facts.StepCounts.{counts_agree}
use Rattle.mufom_meaning.proofs.locations.CellHome.{HasHome, cell_home}
use Rattle.mufom_meaning.proofs.values.ValueLaws.{no_link_fact, no_fact_before}
use Rattle.mufom_meaning.proofs.absolute.Cells.{LiesIn, absolute_cells, section_cells, section_cell, cell_section, apart_own}
use Rattle.mufom_meaning.proofs.absolute.Places.{IsPlacing, placing_there, there_placing, base_there, all_apart, placed_again}
use Rattle.mufom_meaning.proofs.absolute.Counts.{cells_count, fewer}
use Rattle.mufom_meaning.proofs.absolute.Sound.{IsPlainSection, IsAbsoluteSection, IsSoundLocation, sections_plain}

-- ---- no byte of a list that can be located lies outside its section, and none is loaded twice

module _ (ms : List Parts) (plan : Plan) (links : link_answer ms ≡ None) (locates : locate_answer ms plan ≡ None) where
  pub once : (address : ℕ) → ¬ StandsInWalk ms (setting ms (planned_bases ms plan)) (loaded_twice address)
  once address f = (answers_are_facts ms plan).locate_complete locates (loaded_twice address)
      (inr (no_link_fact ms links, no_fact_before ms plan locates, f))

  pub never_outside : (section address : ℕ) → ¬ StandsInWalk ms (setting ms (planned_bases ms plan)) (load_outside section address)
  never_outside section address f = (answers_are_facts ms plan).locate_complete locates (load_outside section address)
      (inr (no_link_fact ms links, no_fact_before ms plan locates, f))

module _ (m : Parts) (more : List Parts) (plan : Plan) (r : LocatedParts) (v : AreValid (m ∷ more)) (h : IsLocation (m ∷ more) plan r) where
  abbrev ms : List Parts
  ms = m ∷ more

  abbrev first_sections : List Section
  first_sections = flat_sections ms

  -- the commons that the plan places
  abbrev asked : List Section
  asked = placed_commons ms plan

  abbrev s : Setting
  s = setting ms (planned_bases ms plan)

  abbrev numbered_sections : List (ℕ × Section)
  numbered_sections = enumerate_from 0 r.sections

  pub placement_none : place_refusal (width ms) plan first_sections asked ≡ None
  unfolding locate_answer
  placement_none = mapped_none placement (place_refusal (width ms) plan first_sections asked) (or_else_none _ _ h.locates).0

  -- a section of the location
  placing : (t : ℕ × Section) → In t numbered_sections → IsPlacing plan first_sections asked t.0 t.1
  placing t k =
      let there = at-In t numbered_sections k in
      let own = enumerate_get 0 r.sections there.0 t there.1 in
      let place : t.0 ≡ there.0 = own.0 ∙ zero-add there.0 in
      placing_there plan first_sections asked t.0 t.1 (ap (λ sections. slice_get sections t.0) (sym h.sections) ∙ ap (slice_get r.sections) place ∙ own.1)

  section_there : (section : Section) → In section r.sections → (n : ℕ) × IsPlacing plan first_sections asked n section
  section_there section k =
      let there = at-In section r.sections k in
      (there.0, placing_there plan first_sections asked there.0 section (ap (λ sections. slice_get sections there.0) (sym h.sections) ∙ there.1))

  absolute : (section : Section) → In section r.sections → IsAbsoluteSection section
  absolute section k =
      let there = section_there section k in
      let p = there.1 in
      record {
        base = (site_of plan first_sections asked (there.0, p.first)).base;
        based = ap (λ (x : Section). x.base) p.same;
        absolute = ap (λ (x : Section). x.absolute) p.same;
      }

  -- a section of the location has the name and the alignment of one of the list, or of a common
  pub plain : (section : Section) → In section r.sections → IsPlainSection section
  plain section k =
      let there = section_there section k in
      let p = there.1 in
      let own = sections_plain ms v plan p.first (In-at p.first (extended_sections ms plan) there.0 p.found) in
      record {
        short = ap (λ (x : Section). is_long x.name) p.same ∙ own.short;
        aligned = ap (λ (x : Section). has_bad_alignment x) p.same ∙ own.aligned;
      }

  -- ---- the cells of the location

  at_home : (cell : Cell) → HasHome s cell → In cell (run_cells r.runs) → In cell (absolute_cells r.runs numbered_sections)
  at_home cell lies k =
      let base = (site_of plan first_sections asked (lies.place, lies.section)).base in
      let prefix = get-prefix first_sections asked lies.place lies.section lies.found in
      let section : Section = record lies.section { absolute = true; base = Some base } in
      let found : slice_get r.sections lies.place ≡ Some section = ap (λ sections. slice_get sections lies.place) h.sections
      ∙ there_placing plan first_sections asked lies.place lies.section prefix.0 in
      let number : base_number s lies.place ≡ base = ap (λ o. unwrap_or o 0) (planned_get ms plan lies.place prefix.1
      ∙ base_there plan first_sections asked lies.place lies.section prefix.0) in
      let numbered_there : slice_get numbered_sections lies.place ≡ Some (lies.place, section) = get_enumerate 0 r.sections lies.place section found
      ∙ (λ i. Some (zero-add lies.place i, section)) in
      let low : base ≤ cell.0 = omega (arith, number, lies.low) in
      let high : cell.0 < base + section.size = omega (arith, number, lies.high) in
      In-flat_map (section_cells r.runs) (lies.place, section) cell numbered_sections (In-at (lies.place, section) numbered_sections lies.place numbered_there)
      (cell_section r.runs (lies.place, section) cell k (base, refl, low, high))

  abbrev map_there : List Cell
  map_there = address_map r.order s.modulus (readings_after s [] (steps ms))

  in_map : (cell : Cell) → In cell (run_cells r.runs) → In cell map_there
  unfolding readings
  in_map cell k = Contains-In cell map_there ((h.rows.same cell).1 (In-Contains cell (run_cells r.runs) k))

  home_of : (cell : Cell) → In cell (run_cells r.runs) → HasHome s cell
  home_of cell k = cell_home r.order ms s (once ms plan h.links h.locates) (never_outside ms plan h.links h.locates) cell (in_map cell k)

  few_cells : length (run_cells r.runs) ≤ loaded_total ms
  few_cells =
      let few = fewer (run_cells r.runs) map_there (apart_own r.runs h.rows.apart) in_map in
      let count = cells_count r.order s [] (steps ms) in
      let all = counts_agree ms v in
      omega (arith, few, count, all)

  pub sound : IsSoundLocation ms plan r
  sound = record {
    links = h.links;
    locates = h.locates;
    first = h.first;
    publics = h.publics;
    start = h.start;
    debug = h.debug;
    enough = (let count : length r.sections ≡ length first_sections + length asked = ap length h.sections ∙ located_count ms plan in omega (arith, count));
    absolute = absolute;
    fits = ap (λ sections. place_refusal (width ms) no_regions sections []) h.sections ∙ placed_again plan first_sections asked (width ms) placement_none;
    apart = h.rows.apart;
    inside = λ cell k. at_home cell (home_of cell k) k;
    few = few_cells;
  }

  -- ---- a section with a loaded byte is one of the modules': a common has none

  covered : (t : ℕ × Section) → In t numbered_sections → (x : ℕ) → LiesIn t x → Covers plan first_sections asked t.0 x
  covered t k x lies =
      let p = placing t k in
      let base : lies.0 ≡ (site_of plan first_sections asked (t.0, p.first)).base = some_same _ _ (sym lies.1 ∙ ap (λ (x : Section). x.base) p.same) in
      let size : t.1.size ≡ p.first.size = ap (λ (x : Section). x.size) p.same in
      record {
        section = p.first;
        site = site_of plan first_sections asked (t.0, p.first);
        at = record { found = p.found; placed = refl };
        above = omega (arith, base, lies.2);
        below = omega (arith, base, size, lies.3);
      }

  pub loaded_first : (t : ℕ × Section) → In t numbered_sections → (cell : Cell) → In cell (section_cells r.runs t) → t.0 < length first_sections
  loaded_first t k cell c = by_place (nat_lt t.0 (length first_sections)) refl where
    there : In cell (run_cells r.runs) × LiesIn t cell.0
    there = section_cell r.runs t cell c

    home_there : HasHome s cell
    home_there = home_of cell there.0

    prefix : (slice_get (first_sections ++ asked) home_there.place ≡ Some home_there.section) × (home_there.place < length first_sections)
    prefix = get-prefix first_sections asked home_there.place home_there.section home_there.found

    number : base_number s home_there.place ≡ (site_of plan first_sections asked (home_there.place, home_there.section)).base
    number = ap (λ o. unwrap_or o 0) (planned_get ms plan home_there.place prefix.1
        ∙ base_there plan first_sections asked home_there.place home_there.section prefix.0)

    at_home_there : Covers plan first_sections asked home_there.place cell.0
    at_home_there = record {
      section = home_there.section;
      site = site_of plan first_sections asked (home_there.place, home_there.section);
      at = record { found = prefix.0; placed = refl };
      above = (let low = home_there.low in omega (arith, number, low));
      below = (let high = home_there.high in omega (arith, number, high));
    }

    by_place : (b : Bool) → nat_lt t.0 (length first_sections) ≡ b → t.0 < length first_sections
    by_place true e = of_lt t.0 (length first_sections) e
    by_place false e =
        let past = of_not_lt t.0 (length first_sections) e in
        let less = prefix.1 in
        let differ : t.0 ≢ home_there.place = λ same. omega (arith, past, less, same) in
        absurd (all_apart plan first_sections asked (width ms) placement_none t.0 home_there.place
        (record { differ = differ; address = cell.0; first = covered t k cell.0 there.1; second = at_home_there }))
