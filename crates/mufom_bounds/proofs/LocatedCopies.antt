-- The sections of a location with copies are within the bounds of the types of a module, and its bytes are bytes.
use Rattle.std.proofs.Common.{◌≡◌, ℕ, zero, suc, ◌+◌, ◌-◌, ◌^◌, ◌<◌, ◌≤◌, ◌⊎◌, inl, inr, List, [], ◌∷◌, ◌++◌, length, Option, Some, None}
use Rattle.std.proofs.Common.{Bool, true, false, refl, sym, ◌∙◌, ap, subst, arith, rules, zero-add, length-append}
use Rattle.std.specs.Prelude.{◌==◌, ◌||◌, filter, if◌then◌else◌, nat_le, nat_lt, option_and_then, option_map, slice_get}
use Rattle.std.specs.List.{AllByRecursion}
use Rattle.std.specs.Str.{bytes_eq}
use Rattle.std.proofs.lemmas.List.{length-map}
use Rattle.std.proofs.lemmas.List.Quantifiers.{position-Some}
use Rattle.std.proofs.lemmas.Option.{slice_get-map}
use Rattle.mufom_numbers.specs.Spelling.{AreBytes}
use Rattle.mufom_numbers.proofs.Choices.{mapped_none, of_not_lt}
use Rattle.mufom_sections.specs.declared.section.Section.{Section}
use Rattle.mufom_module.specs.declared.module.Parts.{Parts}
use Rattle.mufom_plan.specs.declared.plan.Plan.{Plan}
use Rattle.mufom_plan.specs.declared.plan.Region.{Region}
use Rattle.mufom_plan.specs.Names.{listed_names, region_names, region_position}
use Rattle.mufom_place.specs.declared.placing.AssignedBase.{AssignedBase}
use Rattle.mufom_place.specs.declared.placing.Placing.{Placing}
use Rattle.mufom_place.specs.declared.placing.RegionCopy.{RegionCopy}
use Rattle.mufom_place.specs.declared.refusal.PlaceRefusal.TheVariants.{Misfit}
use Rattle.mufom_place.specs.Bases.{last_of, numbered, placing_of, placings, site_with}
use Rattle.mufom_place.specs.Copies.{copies_from, copy_if, copy_placing, copy_sections, copy_with, ends_in, fit_refusal, greatest, has_any}
use Rattle.mufom_place.specs.Copies.{with_copies}
use Rattle.mufom_place.specs.Facts.{first_some, is_misfit, is_past, is_past_region, misfit_by, misfit_with, unplaced_at}
use Rattle.mufom_place.proofs.CopyLaws.{placing-before}
use Rattle.mufom_meaning.specs.declared.located.LocatedParts.{LocatedParts}
use Rattle.mufom_meaning.specs.AddressMap.{Cell, run_cells, step_cells}
use Rattle.mufom_meaning.specs.Facts.{placement}
use Rattle.mufom_meaning.specs.Flat.{flat_sections, width}
use Rattle.mufom_meaning.specs.LinkAnswer.{link_answer}
use Rattle.mufom_meaning.specs.LocateAnswer.{after_placing, locate_answer}
use Rattle.mufom_meaning.specs.Placed.{placed_commons, planned_bases}
use Rattle.mufom_meaning.specs.Staging.{AreValid}
use Rattle.mufom_meaning.specs.Steps.{readings_after, steps}
use Rattle.mufom_meaning.specs.Values.{Setting, setting}
use Rattle.mufom_meaning.proofs.Members.{In, In-append, In-at, at-In, flat_map-In, get_some, map-In}
use Rattle.mufom_meaning.proofs.Names.{get-skip}
use Rattle.mufom_meaning.proofs.Tests.{chosen_none, either_false, get_enumerate}
use Rattle.mufom_planned.specs.Layout.{Layout, has_bytes, layout, layout_placings, whole_list}
use Rattle.mufom_planned.specs.Planned.{HasLocation, copied_answer, layout_fact, moved_cell, moved_cells, reading_section}
use Rattle.mufom_planned.proofs.Apart.{get_placed}
use Rattle.mufom_planned.proofs.Copied.{copy_of}
use Rattle.mufom_planned.proofs.SoundLocation.{in_map}
use Rattle.mufom_bounds.specs.Bounded.{IsBounded}
use Rattle.mufom_bounds.specs.PlanBounds.{IsBoundedRegion}
use Rattle.mufom_bounds.proofs.BoundedLinks.{in-all}
use Rattle.mufom_bounds.proofs.LocatedLoads.{IsByteCell, step-byte}
use Rattle.mufom_bounds.proofs.LocatedSections.{IsMadeButBase, both-none, none-there, same-made, source-made}

-- ---- the region that holds a copy

some-there : {A : Type 0} (xs : List A) (i : ℕ) → i < length xs → (x : A) × (slice_get xs i ≡ Some x)
some-there {A} xs i low = by (slice_get xs i) refl where
  by : (o : Option A) → slice_get xs i ≡ o → (x : A) × (slice_get xs i ≡ Some x)
  by None none = absurd (get_some xs i low none)
  by (Some x) there = (x, there)

-- a position of a region is one of the list
region-there : (regions : List Region) (name : List ℕ) (place : ℕ) → region_position regions name ≡ Some place
    → (region : Region) × (slice_get regions place ≡ Some region)
region-there regions name place found =
    let low = (position-Some (bytes_eq name) (region_names regions) place [] found).0 in
    let count = length-map regions (λ (region : Region). region.name) in
    some-there regions place (omega (arith, low, count))

holder-here : (place : ℕ) (region : Region) (holder : Option ℕ) (has : Bool) (size : ℕ) (c : RegionCopy) → In c (copy_if place region holder has size)
    → holder ≡ Some c.holder
holder-here place region None has size c k = absurd k
holder-here place region (Some holder) false size c k = absurd k
holder-here place region (Some holder) true size c (inl e) = ap (λ (x : RegionCopy). Some x.holder) e
holder-here place region (Some holder) true size c (inr k) = absurd k

-- the region into which a copy is loaded is one of the plan
holder-there : (all : List Region) (sections : List Section) (loaded : List Placing) (n : ℕ) (regions : List Region) (c : RegionCopy)
    → In c (copies_from all sections loaded n regions) → (region : Region) × (slice_get all c.holder ≡ Some region)
holder-there all sections loaded n [] c k = absurd k
holder-there all sections loaded n (region ∷ regions) c k =
    by_place (In-append c (copy_with n region (option_and_then (region_position all) region.load) (ends_in sections n loaded))
    (copies_from all sections loaded (n + 1) regions) k) (holder-there all sections loaded (n + 1) regions c) where
      by_load : (load : Option (List ℕ)) → option_and_then (region_position all) load ≡ Some c.holder
          → (r : Region) × (slice_get all c.holder ≡ Some r)
      by_load None e = absurd cc
      by_load (Some name) e = region-there all name c.holder e

      by_place : In c (copy_with n region (option_and_then (region_position all) region.load) (ends_in sections n loaded))
          ⊎ In c (copies_from all sections loaded (n + 1) regions)
          → (In c (copies_from all sections loaded (n + 1) regions) → (r : Region) × (slice_get all c.holder ≡ Some r))
          → (r : Region) × (slice_get all c.holder ≡ Some r)
      by_place (inl own) later =
          let ends = ends_in sections n loaded in
          by_load region.load (holder-here n region (option_and_then (region_position all) region.load) (has_any ends)
          (greatest region.base ends - region.base) c own)
      by_place (inr there) later = later there

-- ---- where a copy is placed

placing-last : (given : List Placing) (p : Placing) → placing_of (given ++ p ∷ []) p.section ≡ Some p
placing-last [] p =
    let own : (p.section == p.section) ≡ true = search rules in
    ap (λ b. last_of (if b then Some p else None) None) own
placing-last (q ∷ given) p = ap (last_of (if q.section == p.section then Some q else None)) (placing-last given p)

-- a copy is placed in the region that holds it
copy-placed : (regions : List Region) (whole : List Section) (given : List Placing) (n : ℕ) (copied : List RegionCopy) (j : ℕ) (c : RegionCopy)
    → slice_get copied j ≡ Some c
    → (p : Placing) × (placing_of (with_copies regions whole given n copied) (n + j) ≡ Some p) × (p.region ≡ c.holder)
copy-placed regions whole given n [] j c there = absurd cc
copy-placed regions whole given n (first ∷ copied) zero c there =
    let same : first ≡ c = cc in
    let p = copy_placing regions whole given n first in
    let stays = placing-before regions whole (given ++ p ∷ []) (n + 1) copied n (omega arith) ∙ placing-last given p in
    let place : n + 0 ≡ n = omega arith in
    (p, ap (placing_of (with_copies regions whole (given ++ p ∷ []) (n + 1) copied)) place ∙ stays, ap (λ (x : RegionCopy). x.holder) same)
copy-placed regions whole given n (first ∷ copied) (suc j) c there =
    let p = copy_placing regions whole given n first in
    let (q, later, held) = copy-placed regions whole (given ++ p ∷ []) (n + 1) copied j c there in
    let place : n + suc j ≡ (n + 1) + j = omega arith in
    (q, ap (placing_of (with_copies regions whole (given ++ p ∷ []) (n + 1) copied)) place ∙ later, held)

-- what is placed in a region ends in it
region-holds : (modulus : ℕ) (regions : List Region) (n size : ℕ) (p : Placing) (region : Region) → slice_get regions p.region ≡ Some region
    → misfit_with modulus regions n size (site_with None (Some p)) ≡ None → p.base + size ≤ region.base + region.size
region-holds modulus regions n size p region held none =
    let site : AssignedBase = record { base = p.base; region = Some p.region } in
    let end = p.base + size in
    let inside = chosen_none (is_misfit modulus regions site size) (Misfit n site.region) none in
    let before = (either_false (nat_le modulus p.base || nat_lt modulus end) (is_past regions (Some p.region) end) inside).1 in
    of_not_lt (region.base + region.size) end (ap (λ o. is_past_region o end) (sym held) ∙ before)

module _ (ms : List Parts) (plan : Plan) (answer : copied_answer ms plan ≡ None) where
  abbrev l : Layout
  l = layout ms plan

  abbrev own : List Section
  own = flat_sections ms

  abbrev asked : List Section
  asked = placed_commons ms plan

  abbrev whole : List Section
  whole = whole_list l

  abbrev given : List Placing
  given = layout_placings l

  abbrev loaded : List Placing
  loaded = filter (λ p. has_bytes ms p.section) (placings plan own asked)

  abbrev first_copy : ℕ
  first_copy = length own + length asked

  fit : fit_refusal (width ms) plan.regions given whole ≡ None
  fit = (both-none (first_some (unplaced_at (listed_names plan.regions)) (numbered l.sections)) _
      (mapped_none placement _ (both-none (layout_fact ms l) (after_placing ms plan) answer).0)).1

  misfits : first_some (misfit_by (2 ^ width ms) plan.regions given) (numbered whole) ≡ None
  misfits = (both-none (first_some (misfit_by (2 ^ width ms) plan.regions given) (numbered whole)) _ fit).0

  copy-found : (j : ℕ) (c : RegionCopy) → slice_get l.copied j ≡ Some c → slice_get whole (first_copy + j) ≡ Some c.section
  copy-found j c there =
      let total = length-append own asked in
      ap (λ k. slice_get whole (k + j)) (sym total) ∙ get-skip (own ++ asked) (copy_sections l.copied) j
      ∙ slice_get-map (λ (d : RegionCopy). d.section) l.copied j ∙ ap (option_map (λ (d : RegionCopy). d.section)) there

  -- a copy is no longer than the end of the region that holds it
  copy-ends : (j : ℕ) (c : RegionCopy) → slice_get l.copied j ≡ Some c → c.section.base ≡ None → (region : Region)
      → slice_get plan.regions c.holder ≡ Some region → c.section.size ≤ region.base + region.size
  copy-ends j c there bare region held =
      let n = first_copy + j in
      let numbered_there : slice_get (numbered whole) n ≡ Some (n, c.section)
      = get_enumerate 0 whole n c.section (copy-found j c there) ∙ (let same = zero-add n in λ i. Some (same i, c.section)) in
      let none = none-there (misfit_by (2 ^ width ms) plan.regions given) (numbered whole) misfits (n, c.section)
      (In-at (n, c.section) (numbered whole) n numbered_there) in
      let (p, placed, holds) = copy-placed plan.regions whole (placings plan own asked) first_copy l.copied j c there in
      let clear : misfit_with (2 ^ width ms) plan.regions n c.section.size (site_with None (Some p)) ≡ None
      = (λ i. misfit_with (2 ^ width ms) plan.regions n c.section.size (site_with (sym bare i) (sym placed i))) ∙ none in
      let ends = region-holds (2 ^ width ms) plan.regions n c.section.size p region (ap (slice_get plan.regions) holds ∙ held) clear in
      omega (arith, ends)

  -- ---- copies as sections

  module _ (regions : AllByRecursion IsBoundedRegion plan.regions) where
    region-bounded : (n : ℕ) (region : Region) → slice_get plan.regions n ≡ Some region → IsBoundedRegion region
    region-bounded n region there = in-all IsBoundedRegion plan.regions regions region (In-at region plan.regions n there)

    pub copy-made : (section : Section) → In section (copy_sections l.copied) → IsMadeButBase section
    copy-made section k =
        let (c, among, same) = map-In (λ (c : RegionCopy). c.section) section l.copied k in
        let (j, there) = at-In c l.copied among in
        let of = copy_of plan.regions (own ++ asked) loaded 0 plan.regions c among in
        let (holder, held) = holder-there plan.regions (own ++ asked) loaded 0 plan.regions c among in
        let name : of.region.name ≡ c.section.name = ap (λ (x : Section). x.name) (sym of.section) in
        let align : c.section.align ≡ 8 = ap (λ (x : Section). x.align) of.section in
        let fits = copy-ends j c there (ap (λ (x : Section). x.base) of.section) holder held in
        let ends = (region-bounded c.holder holder held).ends in
        let made : IsMadeButBase c.section = record {
          name = subst AreBytes name (region-bounded of.place of.region of.found).name;
          size = omega (arith, fits, ends);
          align = omega (arith, align);
        } in
        subst IsMadeButBase same made

-- ---- the location

module _ (m : Parts) (more : List Parts) (plan : Plan) (r : LocatedParts) (v : AreValid (m ∷ more)) (are : AllByRecursion IsBounded (m ∷ more))
    (links : link_answer (m ∷ more) ≡ None) (locates : locate_answer (m ∷ more) plan ≡ None) (answer : copied_answer (m ∷ more) plan ≡ None)
    (h : HasLocation (m ∷ more) plan r) where
  abbrev ms : List Parts
  ms = m ∷ more

  abbrev s : Setting
  s = setting ms (planned_bases ms plan)

  pub planned-made : AllByRecursion IsBoundedRegion plan.regions → (section : Section) → In section r.sections → IsMadeButBase section
  planned-made regions section k =
      let (n, there) = at-In section r.sections k in
      let (x, found, same) = get_placed ms plan v links locates answer n section (ap (λ sections. slice_get sections n) (sym h.sections) ∙ there) in
      let among = In-at x (whole_list (layout ms plan)) n found in
      let made = by x (In-append x (flat_sections ms ++ placed_commons ms plan) (copy_sections (layout ms plan).copied) among) in
      same-made x section made (ap (λ (y : Section). y.name) same) (ap (λ (y : Section). y.size) same) (ap (λ (y : Section). y.align) same)
    where
      by : (x : Section) → In x (flat_sections ms ++ placed_commons ms plan) ⊎ In x (copy_sections (layout ms plan).copied) → IsMadeButBase x
      by x (inl k) = source-made ms plan are x k
      by x (inr k) = copy-made ms plan answer regions x k

  -- a byte stays the same where it is moved
  pub planned-bytes : (cell : Cell) → In cell (run_cells r.runs) → IsByteCell cell
  planned-bytes cell k =
      let readings = readings_after s [] (steps ms) in
      let mapped = in_map m more plan r v links locates answer h cell k in
      let (step, among, there) = flat_map-In (moved_cells (layout ms plan) r.order s.modulus) cell readings mapped in
      let (from, own, same) = map-In (moved_cell (layout ms plan) (reading_section step)) cell (step_cells r.order s.modulus step) there in
      subst IsByteCell same (step-byte ms are s r.order step among from own)
