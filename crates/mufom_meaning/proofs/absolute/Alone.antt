-- The module of a sound location loads the cells of its runs, and the walk over its loads meets no fact.
use Rattle.std.proofs.Common.{◌≡◌, ℕ, ◌+◌, ◌*◌, ◌^◌, ◌<◌, ◌≤◌, ◌↔◌, inr, List, [], ◌∷◌, length, Some, None, refl, sym}
use Rattle.std.proofs.Common.{◌∙◌, ap, subst, arith, append-nil, zero-add}
use Rattle.std.specs.Prelude.{slice_get, option_map, unwrap_or, Contains}
use Rattle.std.specs.List.{enumerate_from}
use Rattle.mufom_numbers.specs.declared.limits.TheConstants.{MOST_IMAGE_BYTES}
use Rattle.mufom_sections.specs.declared.section.Section.{Section}
use Rattle.mufom_module.specs.declared.module.Parts.{Parts}
use Rattle.mufom_plan.specs.declared.plan.Plan.{Plan}
use Rattle.mufom_place.specs.Bases.{site_of, site_with, placing_of, placings}
use Rattle.mufom_place.specs.Facts.{Covers}
use Rattle.mufom_meaning.specs.declared.located.LocatedParts.{LocatedParts}
use Rattle.mufom_meaning.specs.Flat.{Sited, flat_sections, width}
use Rattle.mufom_meaning.specs.Values.{Setting, setting}
use Rattle.mufom_meaning.specs.Counts.{loaded_total}
use Rattle.mufom_meaning.specs.Steps.{steps, steps_of, readings_after}
use Rattle.mufom_meaning.specs.AddressMap.{Cell, run_cells, address_map}
use Rattle.mufom_meaning.specs.Placed.{planned_bases}
use Rattle.mufom_meaning.specs.Location.{Header}
use Rattle.mufom_meaning.specs.Facts.{image_limit}
use Rattle.mufom_meaning.specs.Absolute.{absolute_of, no_regions}
use Rattle.mufom_numbers.proofs.Choices.{some_same}
use Rattle.mufom_meaning.proofs.Names.{get-prefix}
use Rattle.mufom_meaning.proofs.Placed.{planned_get}
use Rattle.mufom_meaning.proofs.Members.{In, In-at, at-In, Contains-In, In-Contains, flat_map-In}
use Rattle.mufom_meaning.proofs.Tests.{enumerate_get}
use Rattle.mufom_meaning.proofs.locations.CellRuns.{HaveOwnAddresses}
use Rattle.mufom_meaning.proofs.values.ValueLaws.{no_fact_before}
use Rattle.mufom_meaning.proofs.absolute.Cells.{LiesIn, absolute_cells, section_cells, section_cell, apart_own, absolute_own, separate, AreSeparate}
use Rattle.mufom_meaning.proofs.absolute.Places.{base_there, all_apart, ends_inside}
use Rattle.mufom_meaning.proofs.absolute.Walk.{GoodWalk, IsSettled, sections_good}
use Rattle.mufom_meaning.proofs.absolute.Facts.{IsClear}
use Rattle.mufom_meaning.proofs.absolute.Counts.{absolute_length, fewer}
use Rattle.mufom_meaning.proofs.absolute.Sound.{IsSoundLocation}

module _ (m : Parts) (more : List Parts) (plan : Plan) (r : LocatedParts) (h : IsSoundLocation (m ∷ more) plan r) where
  abbrev ms : List Parts
  ms = m ∷ more

  -- the module alone
  abbrev alone : List Parts
  alone = absolute_of r ∷ []

  abbrev again : Setting
  again = setting alone (planned_bases alone no_regions)

  abbrev home : Sited
  home = record { parts = absolute_of r; first_section = 0; first_public = 0; first_name = 0 }

  abbrev numbered_sections : List (ℕ × Section)
  numbered_sections = enumerate_from 0 r.sections

  pub sections_alone : flat_sections alone ≡ r.sections
  sections_alone = append-nil r.sections

  pub width_alone : width alone ≡ width ms
  width_alone = let first : ◌≡◌ {A = Header} (m.processor, m.name, m.maus, m.order) (r.processor, r.name, r.maus, r.order) = some_same _ _ h.first in
      ap (λ (x : Header). 8 * x.2) (sym first)

  pub modulus_alone : again.modulus ≡ 2 ^ width ms
  modulus_alone = ap (λ w. 2 ^ w) width_alone

  -- a section of the location
  found_at : (t : ℕ × Section) → In t numbered_sections → slice_get r.sections t.0 ≡ Some t.1
  found_at t k =
      let there = at-In t numbered_sections k in
      let own = enumerate_get 0 r.sections there.0 t there.1 in
      let place : t.0 ≡ there.0 = own.0 ∙ zero-add there.0 in
      ap (slice_get r.sections) place ∙ own.1

  -- a section is placed at its own base
  site_there : (t : ℕ × Section) (base : ℕ) → t.1.base ≡ Some base → (site_of no_regions r.sections [] t).base ≡ base
  site_there t base e = ap (λ o. (site_with o (placing_of (placings no_regions r.sections []) t.0)).base) e

  settled : (t : ℕ × Section) → In t numbered_sections → (base : ℕ) × (t.1.base ≡ Some base) × IsSettled r.order again home t.0 base t.1.size
  settled t k =
      let found = found_at t k in
      let own = h.absolute t.1 (In-at t.1 r.sections t.0 found) in
      let base = own.base in
      let alone_found : slice_get (flat_sections alone) t.0 ≡ Some t.1 = ap (λ sections. slice_get sections t.0) sections_alone ∙ found in
      let prefix = get-prefix (flat_sections alone) [] t.0 t.1 alone_found in
      let alone_base : slice_get again.bases t.0 ≡ Some base
      = planned_get alone no_regions t.0 prefix.1 ∙ base_there no_regions (flat_sections alone) [] t.0 t.1 prefix.0
      ∙ ap (λ o. Some (site_with o (placing_of (placings no_regions (flat_sections alone) []) t.0)).base) own.based in
      let inside = ends_inside no_regions r.sections [] (width ms) h.fits t.0 t.1 (ap (λ all. slice_get all t.0) (append-nil r.sections) ∙ found) in
      let site = site_there t base own.based in
      let ends : (site_of no_regions r.sections [] t).base + t.1.size ≤ 2 ^ width ms =
      not_past ((site_of no_regions r.sections [] t).base + t.1.size) (2 ^ width ms) (λ past. inside (inr past)) in (
        base,
        own.based,
        record {
          based = ap (λ n. unwrap_or (slice_get again.bases n) 0) (zero-add t.0) ∙ ap (λ o. unwrap_or o 0) alone_base;
          sized = ap (λ n. unwrap_or (option_map (λ found. found.size) (slice_get (flat_sections alone) n)) 0) (zero-add t.0)
              ∙ ap (λ o. unwrap_or (option_map (λ found. found.size) o) 0) alone_found;
          ends = omega (arith, ends, site, modulus_alone);
        },
      )
    where
      not_past : (a b : ℕ) → ¬ (b < a) → a ≤ b
      not_past a b past = omega (arith, past)

  covered : (t : ℕ × Section) → In t numbered_sections → (x : ℕ) → LiesIn t x → Covers no_regions r.sections [] t.0 x
  covered t k x lies =
      let site = site_there t lies.0 lies.1 in
      record {
        section = t.1;
        site = site_of no_regions r.sections [] t;
        at = record { found = ap (λ all. slice_get all t.0) (append-nil r.sections) ∙ found_at t k; placed = refl };
        above = omega (arith, site, lies.2);
        below = omega (arith, site, lies.3);
      }

  apart : AreSeparate numbered_sections
  apart = separate 0 r.sections (λ t u k l differ x a b.
      all_apart no_regions r.sections [] (width ms) h.fits t.0 u.0
      (record { differ = differ; address = x; first = covered t k x a; second = covered u l x b }))

  abbrev cells : List Cell
  cells = absolute_cells r.runs numbered_sections

  steps_alone : steps alone ≡ steps_of home None (absolute_of r).loads
  steps_alone = append-nil (steps_of home None (absolute_of r).loads)

  walk : GoodWalk r.order again home [] (steps alone) cells
  walk = subst (λ all. GoodWalk r.order again home [] all cells) (sym steps_alone) (sections_good r.order again home r.runs numbered_sections settled None [])

  own : HaveOwnAddresses cells
  own = absolute_own r.runs (apart_own r.runs h.apart) numbered_sections apart

  inside : (cell : Cell) → In cell cells → cell.0 < again.modulus
  inside cell k =
      let there = flat_map-In (section_cells r.runs) cell numbered_sections k in
      let lies = (section_cell r.runs there.0 cell there.2).1 in
      let set = settled there.0 there.1 in
      let base : lies.0 ≡ set.0 = some_same lies.0 set.0 (sym lies.1 ∙ set.1) in
      let ends = set.2.ends in omega (arith, base, ends, lies.3)

  pub clear : IsClear r.order again [] (steps alone)
  clear = record {
    plain = walk.0;
    own = subst HaveOwnAddresses (sym walk.1) own;
    inside = λ cell k. inside cell (subst (In cell) walk.1 k);
    free = λ cell k l. l;
  }

  -- ---- the cells

  in_runs : (cell : Cell) → In cell cells → In cell (run_cells r.runs)
  in_runs cell k = let there = flat_map-In (section_cells r.runs) cell numbered_sections k in (section_cell r.runs there.0 cell there.2).0

  pub same_cells : (cell : Cell) → Contains (address_map r.order again.modulus (readings_after again [] (steps alone))) cell ↔ Contains (run_cells r.runs) cell
  same_cells cell = (
    λ k. In-Contains cell (run_cells r.runs) (in_runs cell (subst (In cell) walk.1 (Contains-In cell _ k))),
    λ k. In-Contains cell _ (subst (In cell) (sym walk.1) (h.inside cell (Contains-In cell (run_cells r.runs) k))),
  )

  -- it loads no more than the list
  pub fewer_cells : length cells ≤ loaded_total ms
  fewer_cells = let few = fewer cells (run_cells r.runs) own in_runs in let all = h.few in omega (arith, few, all)

  pub fewer_bytes : loaded_total alone ≤ MOST_IMAGE_BYTES
  fewer_bytes =
      let total : loaded_total alone ≡ length cells = zero-add _ ∙ absolute_length r.runs numbered_sections in
      let few = fewer_cells in
      let bounded : ¬ (MOST_IMAGE_BYTES < loaded_total ms) = λ past. no_fact_before ms plan h.locates (image_limit (loaded_total ms)) (refl, past) in
      omega (arith, total, few, bounded)
