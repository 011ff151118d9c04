-- What the module of a location weighs.
use Rattle.std.proofs.Common.{◌≡◌, ℕ, ◌+◌, ◌*◌, ◌<◌, ◌≤◌, ◌⊎◌, inl, inr, List, [], ◌∷◌, map, filter, flat_map, length, Option, Some, None, Bool, true}
use Rattle.std.proofs.Common.{false, not, cond, refl, sym, ap, subst, arith, sum_by, length-append}
use Rattle.std.specs.Prelude.{option_to_list, option_map, ◌==◌, if◌then◌else◌}
use Rattle.std.specs.List.{enumerate_from}
use Rattle.std.specs.Str.{bytes_eq}
use Rattle.std.proofs.lemmas.List.Sums.{sum_by-append, sum_by-cons}
use Rattle.mufom_expr.specs.Tree.{number}
use Rattle.mufom_sections.specs.declared.section.Section.{Section}
use Rattle.mufom_names.specs.declared.name.Reference.{Reference}
use Rattle.mufom_debug.specs.Marks.{DebugMark, marks_of}
use Rattle.mufom_module.specs.declared.module.Parts.{Parts}
use Rattle.mufom_module.specs.Written.{weight}
use Rattle.mufom_module.specs.Weights.{expression_weight, size_weight, section_weight, public_weight, reference_weight, mark_weight, load_weight}
use Rattle.mufom_module.specs.Weights.{start_weight, frame_weight}
use Rattle.mufom_module.proofs.WeightLaws.{weight-sum}
use Rattle.mufom_plan.specs.declared.plan.Plan.{Plan}
use Rattle.mufom_plan.specs.Commons.{has_common}
use Rattle.mufom_plan.specs.Names.{has_name}
use Rattle.mufom_meaning.specs.declared.located.LocatedParts.{LocatedParts}
use Rattle.mufom_meaning.specs.Flat.{SitedPublic, sited, distinct, flat_sections, flat_publics, flat_references, unresolved_references, public_names}
use Rattle.mufom_meaning.specs.Flat.{is_common, common_size, same_common, commons, common_names}
use Rattle.mufom_meaning.specs.Values.{Setting, setting, value}
use Rattle.mufom_meaning.specs.Counts.{loaded_total}
use Rattle.mufom_meaning.specs.Placed.{common_section, common_sections, placed_commons, extended_sections, base_list, planned_bases}
use Rattle.mufom_meaning.specs.Readings.{readings, public_reading, MarkReading, mark_reading}
use Rattle.mufom_meaning.specs.Location.{Header, placed_section, located_public, located_mark, IsLocation}
use Rattle.mufom_meaning.specs.Staging.{AreValid}
use Rattle.mufom_meaning.specs.StagingLaws.{total_weight}
use Rattle.mufom_meaning.specs.Absolute.{absolute_public, absolute_of}
use Rattle.mufom_meaning.specs.LocationLaws.{asking_count, AbsoluteWeighs}
use Rattle.mufom_numbers.proofs.Choices.{some_same, is_lt}
use Rattle.mufom_meaning.proofs.Members.{In}
use Rattle.mufom_meaning.proofs.staging.JoinedWeight.{sum_by-mapped, sum-flat, distinct-lighter, split_weights}
use Rattle.mufom_meaning.proofs.absolute.Cells.{section_cells}
use Rattle.mufom_meaning.specs.AddressMap.{Cell}
use Rattle.mufom_meaning.proofs.absolute.Entries.{at_least_number, lighter-map, lighter-all, lighter-sited, sum-more, sections-lighter}
use Rattle.mufom_meaning.proofs.absolute.Entries.{reading_weight, public-located, public-lighter, located_weight, mark-lighter, asked_weight}
use Rattle.mufom_meaning.proofs.absolute.Entries.{asked-lighter, room_at, room-sum, loads-lighter}
use Rattle.mufom_meaning.proofs.absolute.Sound.{IsSoundLocation}
use Rattle.mufom_meaning.proofs.absolute.Alone.{fewer_cells}
use Rattle.mufom_meaning.proofs.absolute.Rows.{sound, loaded_first}

-- a second filter leaves no more
two-filters : {X : Type 0} (w : X → ℕ) (p q : X → Bool) (xs : List X) → sum_by w (filter p (filter q xs)) ≤ sum_by w (filter p xs)
two-filters w p q [] = omega arith
two-filters {X} w p q (x ∷ xs) = by_case (q x) (p x) refl (two-filters w p q xs) where
  by_kept : (b : Bool) → p x ≡ b → sum_by w (filter p (filter q xs)) ≤ sum_by w (filter p xs)
      → sum_by w (cond b (x ∷ filter p (filter q xs)) (filter p (filter q xs))) ≤ sum_by w (cond b (x ∷ filter p xs) (filter p xs))
  by_kept true e light = let a = sum_by-cons w x (filter p (filter q xs)) in let b = sum_by-cons w x (filter p xs) in omega (arith, a, b, light)
  by_kept false e light = light

  by_left : (b : Bool) → sum_by w (filter p (filter q xs)) ≤ sum_by w (filter p xs)
      → sum_by w (filter p (filter q xs)) ≤ sum_by w (cond b (x ∷ filter p xs) (filter p xs))
  by_left true light = let b = sum_by-cons w x (filter p xs) in omega (arith, b, light)
  by_left false light = light

  by_case : (c b : Bool) → p x ≡ b → sum_by w (filter p (filter q xs)) ≤ sum_by w (filter p xs)
      → sum_by w (filter p (cond c (x ∷ filter q xs) (filter q xs))) ≤ sum_by w (cond b (x ∷ filter p xs) (filter p xs))
  by_case true b e light = subst (λ d. sum_by w (cond d (x ∷ filter p (filter q xs)) (filter p (filter q xs))) ≤ sum_by w
      (cond b (x ∷ filter p xs) (filter p xs))) (sym e) (by_kept b e light)
  by_case false b e light = by_left b light

-- ---- the commons

-- a bound on the weight of a common, once it is located
abbrev common_weight : List ℕ → ℕ
common_weight name = 74 + length name

sized : (n : ℕ) → size_weight n ≤ 20
sized n = by_case (n == 0) where
  by_case : (b : Bool) → (if b then 0 else 20) ≤ 20
  by_case true = omega arith
  by_case false = omega arith

module _ (ms : List Parts) (plan : Plan) where
  common-lighter : (name : List ℕ) → section_weight (common_section (commons ms) name) + 21 ≤ common_weight name
  common-lighter name = let size = sized (common_section (commons ms) name).size in omega (arith, size)

  -- the references that request space
  abbrev pub asking : List Reference
  asking = filter is_common (flat_references ms)

  -- what goes by the names of the commons adds up to no more than for all these references
  pub names-lighter : (w : List ℕ → ℕ) → sum_by w (distinct bytes_eq (common_names ms)) ≤ sum_by (λ (r : Reference). w r.name) asking
  names-lighter w =
      let pairs = map (λ (reference : Reference). (reference.name, common_size reference.weak)) (filter is_common (unresolved_references ms)) in
      let a = distinct-lighter w bytes_eq (common_names ms) in
      let b = lighter-map w (λ (pair : List ℕ × ℕ). w pair.0) (λ pair. pair.0) (λ pair. omega arith) (commons ms) in
      let c = distinct-lighter (λ (pair : List ℕ × ℕ). w pair.0) same_common pairs in
      let d = lighter-map (λ (pair : List ℕ × ℕ). w pair.0) (λ (r : Reference). w r.name) (λ reference. (reference.name, common_size reference.weak))
      (λ r. omega arith) (filter is_common (unresolved_references ms)) in
      let e = two-filters (λ (r : Reference). w r.name) is_common (λ reference. not (has_name (public_names ms) reference.name)) (flat_references ms) in
      omega (arith, a, b, c, d, e)

  pub commons-lighter : sum_by (λ s. section_weight s + 21) (placed_commons ms plan) ≤ sum_by reference_weight (flat_references ms) + 42 * length asking
  commons-lighter = by_region (has_common plan.regions) (names-lighter common_weight) same_weights (sum-more asked_weight 42 asking)
      (asked-lighter (flat_references ms)) where
        same_weights : sum_by (λ (r : Reference). common_weight r.name) asking ≤ sum_by (λ (r : Reference). asked_weight r + 42) asking
        same_weights = lighter-all (λ (r : Reference). common_weight r.name) (λ (r : Reference). asked_weight r + 42) (λ r. omega arith) asking

        by_region : (b : Bool) → sum_by common_weight (distinct bytes_eq (common_names ms)) ≤ sum_by (λ (r : Reference). common_weight r.name) asking
            → sum_by (λ (r : Reference). common_weight r.name) asking ≤ sum_by (λ (r : Reference). asked_weight r + 42) asking
            → sum_by (λ (r : Reference). asked_weight r + 42) asking ≡ sum_by asked_weight asking + 42 * length asking
            → sum_by asked_weight asking ≤ sum_by reference_weight (flat_references ms)
            → sum_by (λ s. section_weight s + 21) (if b then common_sections ms else []) ≤ sum_by reference_weight (flat_references ms) + 42 * length asking
        by_region false names same split asked = omega arith
        by_region true names same split asked =
            let a = lighter-map (λ s. section_weight s + 21) common_weight (common_section (commons ms)) common-lighter (distinct bytes_eq (common_names ms)) in
            omega (arith, a, names, same, split, asked)

-- ---- the parts

start-located : (o : Option ℕ) → start_weight (option_map (λ n. number n) o) ≡ sum_by (λ (v : Option ℕ). 13) (map (λ v. Some v) (option_to_list o))
start-located None = refl
start-located (Some n) = refl

module _ (m : Parts) (more : List Parts) (plan : Plan) (r : LocatedParts) (h : IsSoundLocation (m ∷ more) plan r) where
  abbrev ms : List Parts
  ms = m ∷ more

  abbrev s : Setting
  s = setting ms (planned_bases ms plan)

  frame : frame_weight (absolute_of r) ≤ sum_by frame_weight ms
  frame =
      let header : ◌≡◌ {A = Header} (m.processor, m.name, m.maus, m.order) (r.processor, r.name, r.maus, r.order) = some_same _ _ h.first in
      let a : length m.processor ≡ length r.processor = ap (λ (x : Header). length x.0) header in
      let b : length m.name ≡ length r.name = ap (λ (x : Header). length x.1) header in
      let c = sum_by-cons frame_weight m more in
      omega (arith, a, b, c)

  publics : sum_by public_weight (map absolute_public r.publics) ≤ sum_by (λ m. sum_by public_weight m.names.publics) ms
  unfolding readings
  publics =
      let a = sum_by-mapped public_weight (λ p. reading_weight (located_public p)) absolute_public public-located r.publics in
      let b = sum_by-mapped reading_weight (λ p. reading_weight (located_public p)) located_public (λ p. refl) r.publics in
      let c : sum_by reading_weight (map located_public r.publics) ≡ sum_by reading_weight (map (public_reading s) (flat_publics ms)) =
      ap (sum_by reading_weight) h.publics in
      let d = lighter-map reading_weight (λ (q : SitedPublic). public_weight q.entry) (public_reading s) (public-lighter s) (flat_publics ms) in
      let e = lighter-sited (λ (q : SitedPublic). public_weight q.entry) public_weight (λ m. m.names.publics)
      (λ site entry. record { site = site; entry = entry }) (λ site entry. omega arith) 0 0 0 ms in
      omega (arith, a, b, c, d, e)

  marks : sum_by mark_weight (marks_of r.debug) ≤ sum_by (λ m. sum_by mark_weight (marks_of m.debug)) ms
  unfolding readings
  marks =
      let read = flat_map (λ site. map (mark_reading s site) (marks_of site.parts.debug)) (sited ms) in
      let a = sum_by-mapped located_weight mark_weight (λ (mark : DebugMark). Some mark) (λ mark. refl) (marks_of r.debug) in
      let b : sum_by located_weight (map (λ (mark : DebugMark). Some mark) (marks_of r.debug)) ≡ sum_by located_weight (map located_mark read) =
      ap (sum_by located_weight) h.debug in
      let c = sum_by-mapped located_weight (λ (x : MarkReading). located_weight (located_mark x)) located_mark (λ x. refl) read in
      let d = lighter-sited (λ (x : MarkReading). located_weight (located_mark x)) mark_weight (λ m. marks_of m.debug) (mark_reading s)
      (mark-lighter s) 0 0 0 ms in
      omega (arith, a, b, c, d)

  starts : start_weight (option_map (λ n. number n) r.start) ≤ sum_by (λ m. sum_by (λ t. 4 + expression_weight t) (option_to_list m.start)) ms
  unfolding readings
  starts =
      let a = start-located r.start in
      let b : sum_by (λ (o : Option ℕ). 13) (map (λ v. Some v) (option_to_list r.start))
      ≡ sum_by (λ (o : Option ℕ). 13) (flat_map (λ site. map (value s site None) (option_to_list site.parts.start)) (sited ms))
      = ap (sum_by (λ (o : Option ℕ). 13)) h.start in
      let c = lighter-sited (λ (o : Option ℕ). 13) (λ t. 4 + expression_weight t) (λ m. option_to_list m.start) (λ site. value s site None)
      (λ site t. let own = at_least_number t in omega (arith, own)) 0 0 0 ms in
      omega (arith, a, b, c)

  -- the bound on all, if the sections and loads weigh no more than those of the list, its references and so much more
  pub sound_weighs : (extra : ℕ) → sum_by section_weight r.sections + sum_by load_weight (absolute_of r).loads
      ≤ sum_by section_weight (flat_sections ms) + sum_by reference_weight (flat_references ms) + extra
      → weight (absolute_of r) ≤ total_weight ms + extra
  sound_weighs extra light =
      let all = split_weights ms in
      let own = weight-sum (absolute_of r) in
      let refs = sum-flat reference_weight (λ m. m.names.references) ms in
      let here = sum-flat section_weight (λ m. m.sections) ms in
      let a = frame in let c = publics in let d = marks in let e = starts in
      omega (arith, all, own, refs, here, a, c, d, e, light)

module _ (m : Parts) (more : List Parts) (plan : Plan) (r : LocatedParts) (v : AreValid (m ∷ more)) (h : IsLocation (m ∷ more) plan r) where
  abbrev all : List Parts
  all = m ∷ more

  sections : sum_by section_weight r.sections
      ≤ sum_by section_weight (flat_sections all) + 21 * length (flat_sections all) + sum_by reference_weight (flat_references all) + 42 * asking_count all
  sections =
      let own : sum_by section_weight r.sections ≡ sum_by section_weight
      (map (placed_section (base_list all plan)) (enumerate_from 0 (extended_sections all plan))) = ap (sum_by section_weight) h.sections in
      let a = sections-lighter (base_list all plan) 0 (extended_sections all plan) in
      let b = sum_by-append section_weight (flat_sections all) (placed_commons all plan) in
      let c = length-append (flat_sections all) (placed_commons all plan) in
      let d = sum-more section_weight 21 (placed_commons all plan) in
      let e = commons-lighter all plan in
      omega (arith, own, a, b, c, d, e)

  abbrev numbered_sections : List (ℕ × Section)
  numbered_sections = enumerate_from 0 r.sections

  -- a section with loaded bytes is one of the modules'
  roomy : (t : ℕ × Section) → In t numbered_sections → (length (section_cells r.runs t) ≡ 0) ⊎ (10 ≤ room_at (length (flat_sections all)) t.0)
  roomy t k = by_cells (section_cells r.runs t) (loaded_first m more plan r v h t k) where
    by_cells : (cells : List Cell) → ((cell : Cell) → In cell cells → t.0 < length (flat_sections all)) → (length cells ≡ 0)
        ⊎ (10 ≤ room_at (length (flat_sections all)) t.0)
    by_cells [] first = inl refl
    by_cells (cell ∷ cells) first =
        let less = is_lt t.0 (length (flat_sections all)) (first cell (inl refl)) in
        let room : room_at (length (flat_sections all)) t.0 ≡ 10 = ap (λ b. if b then 10 else 0) less in inr (omega (arith, room))

  loads : sum_by load_weight (absolute_of r).loads ≤ 10 * length (flat_sections all) + 31 * loaded_total all
  loads =
      let a = loads-lighter r.runs (room_at (length (flat_sections all))) numbered_sections roomy in
      let b = room-sum (length (flat_sections all)) 0 r.sections in
      let c = fewer_cells m more plan r (sound m more plan r v h) in
      omega (arith, a, b, c)

  absolute_weighs_alone : weight (absolute_of r) ≤ total_weight all + 31 * length (flat_sections all) + 31 * loaded_total all + 42 * asking_count all
  absolute_weighs_alone =
      let a = sections in
      let b = loads in
      let extra = 31 * length (flat_sections all) + 31 * loaded_total all + 42 * asking_count all in
      let whole = sound_weighs m more plan r (sound m more plan r v h) extra (omega (arith, a, b)) in
      omega (arith, whole)

pub absolute_weighs : AbsoluteWeighs
absolute_weighs [] plan r v h = let e = h.first in absurd cc
absolute_weighs (m ∷ more) plan r v h = absolute_weighs_alone m more plan r v h
