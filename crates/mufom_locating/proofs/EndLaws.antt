-- Regions are filled with the copies of regions, in the order of the regions.
use Rattle.std.proofs.Common.{◌≡◌, ℕ, zero, suc, ◌+◌, ◌-◌, ◌*◌, ◌/◌, ◌<◌, ◌≤◌, List, [], ◌∷◌, ◌++◌, length, map, drop, get_or, Option, Some, None, Bool, true, false, refl}
use Rattle.std.proofs.Common.{sym, ap, subst, ◌∙◌, arith, length-append}
use Rattle.std.specs.Prelude.{All, IfSome, filter, max, nat_lt, option_and_then, option_map, set, slice_get, unwrap_or, ◌==◌, if◌then◌else◌}
use Rattle.std.proofs.Math.Nat.{lt-div-mul-add}
use Rattle.std.proofs.lemmas.List.{drop_all, drop_more}
use Rattle.std.proofs.lemmas.List.Elements.{All-contains, All-tail}
use Rattle.std.proofs.lemmas.Option.{slice_get_within}
use Rattle.mufom_numbers.proofs.Choices.{is_lt}
use Rattle.mufom_sections.specs.declared.section.Section.{Section}
use Rattle.mufom_module.specs.declared.module.Parts.{Parts}
use Rattle.mufom_plan.specs.declared.plan.Region.{Region}
use Rattle.mufom_plan.specs.declared.plan.Plan.{Plan}
use Rattle.mufom_plan.specs.Names.{region_position}
use Rattle.mufom_place.specs.declared.placing.Placing.{Placing}
use Rattle.mufom_place.specs.declared.placing.RegionCopy.{RegionCopy}
use Rattle.mufom_place.specs.Bases.{aligned_up, placings as placings_of}
use Rattle.mufom_place.specs.Copies.{copies_from, copy_if, copy_placing, copy_section, ends_in, filled_to, greatest, placed_by, placed_end, region_base, size_at}
use Rattle.mufom_place.specs.Copies.{with_copies}
use Rattle.mufom_place.specs.Facts.{HasNoBase, IsAligned}
use Rattle.mufom_place.specs.Filling.{AreFilled, AreMarked, AreSizedFrom, raised}
use Rattle.mufom_place.proofs.FillingLemmas.{copied-at, filled-raised, sized-after}
use Rattle.mufom_meaning.specs.CallLaws.{MayBePlaced}
use Rattle.mufom_meaning.specs.Flat.{flat_sections}
use Rattle.mufom_meaning.specs.Placed.{extended_sections, placed_commons}
use Rattle.mufom_meaning.proofs.Members.{All-In, In, In-Contains}
use Rattle.mufom_planned.specs.Layout.{has_bytes, layout, whole_list}
use Rattle.mufom_planned.proofs.Copied.{placed_in}
use Rattle.mufom_locating.specs.Ends.{AreEnds, ArePlain, copied_whole, copies_by, copy_holder, placed_with_copies, with_copy_end}

-- ---- a copy in a region

aligned-above : (address : ℕ) → address ≤ aligned_up 8 address
aligned-above address =
    let positive : 0 < 8 = omega arith in
    let up = lt-div-mul-add {a = address + (8 - 1)} {b = 8} positive in
    omega (arith, up)

-- a copy behind what its region holds is the greatest end there
copy-raised : (holder size : ℕ) (ends : List ℕ) → holder < length ends
    → with_copy_end (Some holder) size ends ≡ raised holder (aligned_up 8 (get_or ends holder 0) + size) ends
copy-raised holder size ends inside =
    let own = get_or ends holder 0 in
    let up = aligned_up 8 (get_or ends holder 0) in
    let above : own ≤ up = aligned-above own in
    let greater : up + size ≡ max own (up + size) = omega (arith, above) in
    ap (set ends holder) greater
    ∙ sym (ap (λ (b : Bool). if b then set ends holder (max own (up + size)) else ends) (is_lt holder (length ends) inside))

-- ---- sections and commons before copies

own-at : {X : Type 0} (xs ys : List X) (i : ℕ) → i < length xs → slice_get (xs ++ ys) i ≡ slice_get xs i
own-at [] ys i inside = absurd (omega (arith, inside))
own-at (x ∷ xs) ys zero inside = refl
own-at (x ∷ xs) ys (suc i) inside = own-at xs ys i (omega (arith, inside))

ends-own : (plain more : List Section) (r : ℕ) (given : List Placing) → ArePlain plain given → ends_in (plain ++ more) r given ≡ ends_in plain r given
ends-own plain more r [] all = refl
ends-own plain more r (p ∷ given) all =
    by_case (p.region == r) (ends-own plain more r given (All-tail (λ (q : Placing). q.section < length plain) p given all)) where
      end : placed_end (plain ++ more) p ≡ placed_end plain p
      end = ap (λ o. p.base + unwrap_or (option_map (λ (s : Section). s.size) o) 0) (own-at plain more p.section (all 0 p (omega arith)))

      by_case : (b : Bool) → ends_in (plain ++ more) r given ≡ ends_in plain r given
          → map (placed_end (plain ++ more)) (if b then p ∷ placed_by r given else placed_by r given)
          ≡ map (placed_end plain) (if b then p ∷ placed_by r given else placed_by r given)
      by_case true later = λ i. end i ∷ later i
      by_case false later = later

filled-own : (regions : List Region) (plain more : List Section) (given : List Placing) (ends : List ℕ) → ArePlain plain given
    → AreFilled regions plain given ends → AreFilled regions (plain ++ more) given ends
filled-own regions plain more given ends all h = record {
  count = h.count;
  each = λ r low. h.each r low ∙ sym (ap (greatest (region_base regions r)) (ends-own plain more r given all));
}

-- ---- region by region

module _ (regions : List Region) (plain : List Section) (placings loaded : List Placing) where
  abbrev whole : List Section
  whole = copied_whole regions plain loaded

  -- the copies of the regions from a position on
  abbrev copies_after : ℕ → List RegionCopy
  copies_after i = copies_from regions plain loaded i (drop i regions)

  -- these are the ends with the copies of the regions before a position; the other copies are placed after them
  pub record AreWalked (i : ℕ) (ends : List ℕ) : Type 0 where
    pub given : List Placing
    pub at : ℕ
    pub filled : AreFilled regions whole given ends
    pub sized : AreSizedFrom whole at (copies_after i)
    pub rest : placed_with_copies regions plain placings loaded ≡ with_copies regions whole given at (copies_after i)

  pub walk-start : (ends : List ℕ) → ArePlain plain placings → AreFilled regions plain placings ends → AreWalked 0 ends
  walk-start ends all h = record {
    given = placings;
    at = length plain;
    filled = filled-own regions plain _ placings ends all h;
    sized = sized-after plain (copies_by regions plain loaded);
    rest = refl;
  }

  -- the copy of one region, before others
  walk-on : (i : ℕ) (region : Region) (more : List RegionCopy) (ends : List ℕ) (size : ℕ) (holder : Option ℕ) (has : Bool)
      → IfSome (if has then holder else None) (λ n. n < length regions)
      → (given : List Placing) (at : ℕ) → AreFilled regions whole given ends → AreSizedFrom whole at (copy_if i region holder has size ++ more)
      → (next : List Placing) × (later : ℕ) × AreFilled regions whole next (with_copy_end (if has then holder else None) size ends)
      × AreSizedFrom whole later more
      × (with_copies regions whole given at (copy_if i region holder has size ++ more) ≡ with_copies regions whole next later more)
  walk-on i region more ends size None true low given at filled sized = (given, at, filled, sized, refl)
  walk-on i region more ends size None false low given at filled sized = (given, at, filled, sized, refl)
  walk-on i region more ends size (Some n) false low given at filled sized = (given, at, filled, sized, refl)
  walk-on i region more ends size (Some n) true low given at filled sized =
      let c : RegionCopy = record { source = i; holder = n; section = copy_section region size } in
      let p = copy_placing regions whole given at c in
      let count = filled.count in
      let inside : n < length ends = omega (arith, low, count) in
      let own = filled.each n low in
      let raise : with_copy_end (Some n) size ends ≡ raised n (placed_end whole p) ends
      = copy-raised n size ends inside ∙ (λ j. raised n (aligned_up 8 (own j) + sym sized.0 j) ends) in (
        given ++ p ∷ [],
        at + 1,
        subst (AreFilled regions whole (given ++ p ∷ [])) (sym raise) (filled-raised regions whole given p ends filled),
        sized.1,
        refl,
      )

  -- the copy of the region at a position
  pub walk-next : (i : ℕ) (region : Region) → i < length regions → region ≡ get_or regions i region
      → (marks : List Bool) (loaded_ends : List ℕ) → AreMarked (length regions) loaded marks → AreFilled regions plain loaded loaded_ends
      → IfSome (copy_holder regions region (get_or marks i false)) (λ n. n < length regions)
      → (ends : List ℕ) → AreWalked i ends
      → AreWalked (i + 1) (with_copy_end (copy_holder regions region (get_or marks i false)) (get_or loaded_ends i 0 - region.base) ends)
  walk-next i region low is marks loaded_ends m h within ends walked =
      let more = drop (i + 1) regions in
      let next = drop_more regions i region low ∙ ap (λ v. v ∷ more) (sym is) in
      let holder = option_and_then (region_position regions) region.load in
      let has = get_or marks i false in
      let size = get_or loaded_ends i 0 - region.base in
      let later = copies_from regions plain loaded (i + 1) more in
      let list : copies_after i ≡ copy_if i region holder has size ++ later = ap (copies_from regions plain loaded i) next
      ∙ ap (λ cs. cs ++ later) (sym (copied-at regions plain loaded i region low is loaded_ends marks h m)) in
      let on = walk-on i region later ends size holder has within walked.given walked.at walked.filled
      (subst (AreSizedFrom whole walked.at) list walked.sized) in
      record {
        given = on.0;
        at = on.1;
        filled = on.2;
        sized = on.3;
        rest = walked.rest ∙ ap (with_copies regions whole walked.given walked.at) list ∙ on.4;
      }

  pub walk-end : (i : ℕ) (ends : List ℕ) → length regions ≤ i → AreWalked i ends
      → AreFilled regions whole (placed_with_copies regions plain placings loaded) ends
  walk-end i ends all walked =
      let none = ap (copies_from regions plain loaded i) (drop_all i regions all) in
      let placed = walked.rest ∙ ap (with_copies regions whole walked.given walked.at) none in
      subst (λ ps. AreFilled regions whole ps ends) (sym placed) walked.filled

-- ---- what regions place

-- regions place sections and commons
pub plain-placings : (m : Parts) (plan : Plan) → MayBePlaced (m ∷ []) plan
    → ArePlain (extended_sections (m ∷ []) plan) (placings_of plan (flat_sections (m ∷ [])) (placed_commons (m ∷ []) plan))
plain-placings m plan may =
    All-In (λ (p : Placing). p.section < length all) (placings_of plan own asked) (λ p k.
    let there = placed_in plan own asked aligned baseless p k in
    slice_get_within all p.section there.section there.found)
  where
    own : List Section
    own = flat_sections (m ∷ [])

    asked : List Section
    asked = placed_commons (m ∷ []) plan

    all : List Section
    all = extended_sections (m ∷ []) plan

    aligned : (s : Section) → In s (own ++ asked) → 1 ≤ s.align
    aligned s k = (All-contains IsAligned all s may.alignments (In-Contains s all k)).least

    baseless : (s : Section) → In s asked → s.base ≡ None
    baseless s k = All-contains HasNoBase asked s (subst (All HasNoBase) may.last may.without_base) (In-Contains s asked k)

-- the ends that are computed of a layout's lists are those of the layout
pub layout-ends : (m : Parts) (plan : Plan) (regions : List Region) (plain : List Section) (placings loaded : List Placing) (ends : List ℕ)
    → regions ≡ plan.regions → plain ≡ extended_sections (m ∷ []) plan
    → placings ≡ placings_of plan (flat_sections (m ∷ [])) (placed_commons (m ∷ []) plan)
    → loaded ≡ filter (λ (p : Placing). has_bytes (m ∷ []) p.section) (placings_of plan (flat_sections (m ∷ [])) (placed_commons (m ∷ []) plan))
    → AreFilled regions (copied_whole regions plain loaded) (placed_with_copies regions plain placings loaded) ends
    → AreEnds (layout (m ∷ []) plan) ends
layout-ends m plan regions plain placings loaded ends r p g b h =
    let l = layout (m ∷ []) plan in
    let count = length-append l.sections l.commons in
    subst (λ n. AreFilled plan.regions (whole_list l) (with_copies plan.regions (whole_list l) (placings_of plan l.sections l.commons) n l.copied) ends) count
    (subst (λ ls. AreFilled plan.regions (copied_whole plan.regions (l.sections ++ l.commons) ls)
    (placed_with_copies plan.regions (l.sections ++ l.commons) (placings_of plan l.sections l.commons) ls) ends) b
    (subst (λ ps. AreFilled plan.regions (copied_whole plan.regions (l.sections ++ l.commons) loaded)
    (placed_with_copies plan.regions (l.sections ++ l.commons) ps loaded) ends) g
    (subst (λ ss. AreFilled plan.regions (copied_whole plan.regions ss loaded) (placed_with_copies plan.regions ss placings loaded) ends) p
    (subst (λ rs. AreFilled rs (copied_whole rs plain loaded) (placed_with_copies rs plain placings loaded) ends) r h))))
