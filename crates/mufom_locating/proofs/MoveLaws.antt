-- The extents that the code makes are those of the layout.
use Rattle.std.proofs.Common.{◌≡◌, ℕ, zero, suc, ◌+◌, ◌-◌, ◌<◌, ◌≤◌, ◌%◌, ◌^◌, List, [], ◌∷◌, ◌++◌, length, map, take, drop, get_or, Option, Some, None, refl, sym, ap, subst, ◌∙◌}
use Rattle.std.proofs.Common.{arith, length-append, append_assoc}
use Rattle.std.specs.Prelude.{slice_get, slice_index_or, option_map, option_and_then, option_to_list, position, flat_map, unwrap_or, ◌==◌}
use Rattle.std.specs.List.{enumerate_from}
use Rattle.std.proofs.Math.ListN.{length-map}
use Rattle.std.proofs.Math.Seq.{take-append_seam}
use Rattle.std.proofs.lemmas.Option.{slice_get-map, unwrap_or-slice_get}
use Rattle.mufom_sections.specs.declared.section.Section.{Section}
use Rattle.mufom_plan.specs.declared.plan.Region.{Region}
use Rattle.mufom_place.specs.declared.placing.Placing.{Placing}
use Rattle.mufom_place.specs.declared.placing.RegionCopy.{RegionCopy}
use Rattle.mufom_place.specs.Bases.{Numbered, numbered, placing_of}
use Rattle.mufom_place.specs.Copies.{copy_sections}
use Rattle.mufom_place.specs.Filling.{AreSizedFrom}
use Rattle.mufom_place.proofs.FillingLemmas.{sized-after}
use Rattle.mufom_moves.specs.declared.shift.Shift.{Shift}
use Rattle.mufom_planned.specs.Layout as planned
use Rattle.mufom_planned.specs.Layout.{Layout, base_in, base_at, layout_bases, layout_placings, move_of, move_from, section_move, whole_list}
use Rattle.mufom_locating.specs.declared.moves.Move.{Move}
use Rattle.mufom_locating.specs.Copied.{shift_of, layout_shifts}
use Rattle.mufom_locating.specs.Moves.{move_for, region_move, section_shifts, shift_by}
use Rattle.mufom_locating.proofs.ListLaws.{get-drop}

pub empty-list : {A : Type 0} (xs : List A) → length xs ≡ 0 → xs ≡ []
empty-list [] e = refl
empty-list (x ∷ xs) e = absurd (omega (arith, e))

get-numbered : {A : Type 0} (k : ℕ) (xs : List A) (i : ℕ) → slice_get (enumerate_from k xs) i ≡ option_map (λ x. (k + i, x)) (slice_get xs i)
get-numbered k [] i = refl
get-numbered k (x ∷ xs) zero = let place : k ≡ k + 0 = omega arith in λ j. Some (place j, x)
get-numbered k (x ∷ xs) (suc i) =
    let place : (k + 1) + i ≡ k + suc i = omega arith in
    get-numbered (k + 1) xs i ∙ ap (λ n. option_map (λ y. (n, y)) (slice_get xs i)) place

-- equal lists for each numbered section give equal lists for all
same-parts : {B : Type 0} (f g : Numbered → List B) (k : ℕ) (xs : List Section) → ((i : ℕ) (x : Section) → i < length xs → f (k + i, x) ≡ g (k + i, x))
    → flat_map f (enumerate_from k xs) ≡ flat_map g (enumerate_from k xs)
same-parts f g k [] same = refl
same-parts f g k (x ∷ xs) same =
    let first : f (k, x) ≡ g (k, x) = (let here : k + 0 ≡ k = omega arith in
    ap (λ n. f (n, x)) (sym here) ∙ same 0 x (omega arith) ∙ ap (λ n. g (n, x)) here) in
    let rest = same-parts f g (k + 1) xs (λ i y less.
    let next : (k + 1) + i ≡ k + suc i = omega arith in
    ap (λ n. f (n, y)) next ∙ same (suc i) y (omega (arith, less)) ∙ ap (λ n. g (n, y)) (sym next)) in
    λ i. first i ++ rest i

module _ (l : Layout) where
  abbrev count : ℕ
  count = length l.sections + length l.commons

  pub whole-count : length (whole_list l) ≡ count + length l.copied
  whole-count =
      let all = length-append (l.sections ++ l.commons) (copy_sections l.copied) in
      let plain = length-append l.sections l.commons in
      let copies = length-map l.copied (λ (c : RegionCopy). c.section) in
      omega (arith, all, plain, copies)

  pub sized : AreSizedFrom (whole_list l) count l.copied
  sized = subst (λ n. AreSizedFrom (whole_list l) n l.copied) (length-append l.sections l.commons) (sized-after (l.sections ++ l.commons) l.copied)

  pub plain-whole : (whole : List Section) (n : ℕ) → whole ≡ whole_list l → n ≡ count → take n whole ≡ l.sections ++ l.commons
  plain-whole whole n is at =
      (λ i. take ((at ∙ sym (length-append l.sections l.commons)) i) (is i)) ∙ take-append_seam (l.sections ++ l.commons) (copy_sections l.copied)

  -- ---- no copies

  no-move : l.copied ≡ [] → (n : ℕ) → section_move l n ≡ None
  no-move none n = by_placing (placing_of (layout_placings l) n) where
    by_region : (k : ℕ) (o : Option Region) → option_and_then (λ region. move_of l (k, region)) o ≡ None
    by_region k None = refl
    by_region k (Some region) = ap (λ (copied : List RegionCopy). option_map (planned.move_to l region) (position (λ c. c.source == k) copied)) none

    by_placing : (o : Option Placing) → option_and_then (λ p. move_from l p.region) o ≡ None
    by_placing None = refl
    by_placing (Some p) = by_region p.region (slice_get l.plan.regions p.region)

  pub no-shifts : l.copied ≡ [] → layout_shifts l ≡ []
  no-shifts none = all (numbered l.sections) where
    all : (ts : List Numbered) → flat_map (λ t. option_to_list (option_map (shift_of l t) (section_move l t.0))) ts ≡ []
    all [] = refl
    all (t ∷ ts) = ap (λ o. option_to_list (option_map (shift_of l t) o) ++ flat_map (λ u. option_to_list (option_map (shift_of l u) (section_move l u.0))) ts)
        (no-move none t.0) ∙ all ts

  -- ---- the moves of regions

  abbrev copy_bases : List ℕ
  copy_bases = drop count (layout_bases l)

  module _ (moves : List (Option Move)) (are : moves ≡ map (region_move l.copied copy_bases) (enumerate_from 0 l.plan.regions)) where
    moves-at : (k : ℕ) → slice_index_or moves k None ≡ option_and_then (λ region. region_move l.copied copy_bases (k, region)) (slice_get l.plan.regions k)
    moves-at k =
        sym (unwrap_or-slice_get moves k None)
        ∙ ap (λ o. unwrap_or o None) (ap (λ ms. slice_get ms k) are ∙ slice_get-map (region_move l.copied copy_bases) (enumerate_from 0 l.plan.regions) k
        ∙ ap (option_map (region_move l.copied copy_bases)) (get-numbered 0 l.plan.regions k))
        ∙ by_region (slice_get l.plan.regions k) where
          by_region : (o : Option Region) → unwrap_or (option_map (region_move l.copied copy_bases) (option_map (λ x. (0 + k, x)) o)) None
              ≡ option_and_then (λ region. region_move l.copied copy_bases (k, region)) o
          by_region None = refl
          by_region (Some region) = let place : 0 + k ≡ k = omega arith in ap (λ n. region_move l.copied copy_bases (n, region)) place

    shift-there : (t : Numbered) (region : Region) (o : Option ℕ)
        → option_to_list (option_map (shift_by (base_in (layout_bases l) t.0) t.1.size)
        (option_map (λ n. record { from = region.base; to = base_in copy_bases n }) o))
        ≡ option_to_list (option_map (shift_of l t) (option_map (planned.move_to l region) o))
    shift-there t region None = refl
    shift-there t region (Some n) =
        ap (λ b. record { from = base_at l t.0; size = t.1.size; to = (unwrap_or b 0 + base_at l t.0 - region.base) % 2 ^ 64 } ∷ [])
        (get-drop (layout_bases l) count n)

    same-shift : (t : Numbered) (o : Option Placing)
        → option_to_list (option_map (shift_by (base_in (layout_bases l) t.0) t.1.size) (move_for moves o))
        ≡ option_to_list (option_map (shift_of l t) (option_and_then (λ p. move_from l p.region) o))
    same-shift t None = refl
    same-shift t (Some p) =
        ap (λ m. option_to_list (option_map (shift_by (base_in (layout_bases l) t.0) t.1.size) m)) (moves-at p.region)
        ∙ by_region (slice_get l.plan.regions p.region) where
          by_region : (o : Option Region)
              → option_to_list (option_map (shift_by (base_in (layout_bases l) t.0) t.1.size)
              (option_and_then (λ region. region_move l.copied copy_bases (p.region, region)) o))
              ≡ option_to_list (option_map (shift_of l t) (option_and_then (λ region. move_of l (p.region, region)) o))
          by_region None = refl
          by_region (Some region) = shift-there t region (position (λ c. c.source == p.region) l.copied)

    pub all-shifts : (placed : List (Option Placing)) → ((n : ℕ) → n < length l.sections → slice_index_or placed n None ≡ placing_of (layout_placings l) n)
        → flat_map (section_shifts (layout_bases l) placed moves) (numbered l.sections) ≡ layout_shifts l
    all-shifts placed value =
        same-parts (section_shifts (layout_bases l) placed moves) (λ t. option_to_list (option_map (shift_of l t) (section_move l t.0))) 0 l.sections
        (λ i x less.
        let place : 0 + i ≡ i = omega arith in
        ap (λ o. option_to_list (option_map (shift_by (base_in (layout_bases l) (0 + i)) x.size) (move_for moves o)))
        (value (0 + i) (omega (arith, less)))
        ∙ same-shift (0 + i, x) (placing_of (layout_placings l) (0 + i)))
