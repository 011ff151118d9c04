-- Copies move no section and no common, and what fits with copies fits without them.
use Rattle.std.proofs.Common.{◌≡◌, ◌≢◌, ℕ, zero, suc, ◌+◌, ◌<◌, ◌≤◌, ◌^◌, List, [], ◌∷◌, ◌++◌, length, map, Option, Some, None, Bool, true, false, refl}
use Rattle.std.proofs.Common.{sym, ap, subst, ◌∙◌, arith, length-append}
use Rattle.std.specs.Prelude.{slice_get, nat_lt, ◌==◌, if◌then◌else◌}
use Rattle.std.specs.List.{enumerate_from, IsDistinct}
use Rattle.std.proofs.lemmas.List.{map-append, length-map}
use Rattle.std.proofs.lemmas.List.FromFn.{length-enumerate_from}
use Rattle.mufom_sections.specs.declared.section.Section.{Section}
use Rattle.mufom_plan.specs.declared.plan.Region.{Region}
use Rattle.mufom_plan.specs.declared.plan.Plan.{Plan}
use Rattle.mufom_place.specs.declared.placing.Placing.{Placing}
use Rattle.mufom_place.specs.declared.placing.RegionCopy.{RegionCopy}
use Rattle.mufom_place.specs.Bases.{Numbered, numbered, placings, placing_of, site_with, site_by, site_of, bases}
use Rattle.mufom_plan.specs.Names.{listed_names}
use Rattle.mufom_place.specs.declared.placing.Extent.{Extent}
use Rattle.mufom_place.specs.declared.refusal.PlaceRefusal.{PlaceRefusal}
use Rattle.mufom_place.specs.Facts.{◌or_else◌, first_some, unplaced_at, misfit_with, misfit_by, misfit_at, extents, in_order, first_overlap}
use Rattle.mufom_place.specs.Copies.{copy_sections, all_sections, copy_placing, with_copies, all_placings, all_bases}
use Rattle.mufom_place.specs.CopyLaws.{CopiesMoveNothing, FitsWithoutCopies}
use Rattle.mufom_place.proofs.ExtentOrder.{StandsIn, Comes, InOrder, comes_one_way, less_of, false_less, same_section, in_order_members, in_order_keeps}
use Rattle.mufom_place.proofs.ExtentOrder.{in_order-InOrder, extents-distinct}
use Rattle.mufom_place.proofs.FactLemmas.{overlap_at, apart}
use Rattle.mufom_place.proofs.PlannedLemmas.{planned-passed}

-- the copies have later positions, so the base that regions give to an earlier one stays
pub placing-before : (regions : List Region) (whole : List Section) (given : List Placing) (n : ℕ) (copied : List RegionCopy) (k : ℕ) → k < n
    → placing_of (with_copies regions whole given n copied) k ≡ placing_of given k
placing-before regions whole given n [] k low = refl
placing-before regions whole given n (c ∷ more) k low =
    let p = copy_placing regions whole given n c in
    let differ : n ≢ k = λ same. omega (arith, same, low) in
    placing-before regions whole (given ++ p ∷ []) (n + 1) more k (omega (arith, low)) ∙ sym (planned-passed given p k differ)

enumerate-append : {X : Type 0} (k : ℕ) (xs ys : List X) → enumerate_from k (xs ++ ys) ≡ enumerate_from k xs ++ enumerate_from (k + length xs) ys
enumerate-append k [] ys = let none : k ≡ k + 0 = omega arith in ap (λ n. enumerate_from n ys) none
enumerate-append k (x ∷ xs) ys =
    let next : (k + 1) + length xs ≡ k + length (x ∷ xs) = omega arith in
    ap (λ more. (k, x) ∷ more) (enumerate-append (k + 1) xs ys ∙ ap (λ n. enumerate_from (k + 1) xs ++ enumerate_from n ys) next)

-- functions that agree below a bound give the same of the sections below it
same-below : (f g : Numbered → ℕ) (bound k : ℕ) (sections : List Section) → ((n : ℕ) (s : Section) → n < bound → f (n, s) ≡ g (n, s))
    → k + length sections ≤ bound → map f (enumerate_from k sections) ≡ map g (enumerate_from k sections)
same-below f g bound k [] same low = refl
same-below f g bound k (s ∷ sections) same low =
    let here : k < bound = omega (arith, low) in
    let rest = same-below f g bound (k + 1) sections same (omega (arith, low)) in
    λ i. same k s here i ∷ rest i

pub copies_move_nothing : CopiesMoveNothing
copies_move_nothing plan sections commons copied =
    (map by_all (enumerate_from (0 + length (sections ++ commons)) (copy_sections copied)), all_is, sized) where
      by_all : Numbered → ℕ
      by_all s = (site_by (all_placings plan sections commons copied) s).base

      by_given : Numbered → ℕ
      by_given s = (site_by (placings plan sections commons) s).base

      stays : (n : ℕ) (s : Section) → n < length (sections ++ commons) → by_all (n, s) ≡ by_given (n, s)
      stays n s low =
          let total = length-append sections commons in
          ap (λ o. (site_with s.base o).base) (placing-before plan.regions (all_sections sections commons copied) (placings plan sections commons)
          (length sections + length commons) copied n (omega (arith, low, total)))

      all_is : all_bases plan sections commons copied ≡ bases plan sections commons
          ++ map by_all (enumerate_from (0 + length (sections ++ commons)) (copy_sections copied))
      all_is =
          ap (map by_all) (enumerate-append 0 (sections ++ commons) (copy_sections copied))
          ∙ map-append by_all (numbered (sections ++ commons)) (enumerate_from (0 + length (sections ++ commons)) (copy_sections copied))
          ∙ ap (λ front. front ++ map by_all (enumerate_from (0 + length (sections ++ commons)) (copy_sections copied)))
          (same-below by_all by_given (length (sections ++ commons)) 0 (sections ++ commons) stays (omega arith))

      sized : length (map by_all (enumerate_from (0 + length (sections ++ commons)) (copy_sections copied))) ≡ length copied
      sized =
          length-map (enumerate_from (0 + length (sections ++ commons)) (copy_sections copied)) by_all
          ∙ length-enumerate_from (0 + length (sections ++ commons)) (copy_sections copied)
          ∙ length-map copied (λ (c : RegionCopy). c.section)

-- ---- what fits with copies fits without them

or_none : {A : Type 0} (o p : Option A) → o or_else p ≡ None → (o ≡ None) × (p ≡ None)
or_none None p e = (refl, e)
or_none (Some x) p e = absurd cc

first_some-append : {A B : Type 0} (f : A → Option B) (xs ys : List A) → first_some f (xs ++ ys) ≡ None → first_some f xs ≡ None
first_some-append f [] ys e = refl
first_some-append f (x ∷ xs) ys e =
    let parts = or_none (f x) (first_some f (xs ++ ys)) e in
    ap (λ o. o or_else first_some f xs) parts.0 ∙ first_some-append f xs ys parts.1

same-first : (f g : Numbered → Option PlaceRefusal) (bound k : ℕ) (sections : List Section) → ((n : ℕ) (s : Section) → n < bound → f (n, s) ≡ g (n, s))
    → k + length sections ≤ bound → first_some f (enumerate_from k sections) ≡ first_some g (enumerate_from k sections)
same-first f g bound k [] same low = refl
same-first f g bound k (s ∷ sections) same low =
    let here : k < bound = omega (arith, low) in
    let rest = same-first f g bound (k + 1) sections same (omega (arith, low)) in
    λ i. same k s here i or_else rest i

extents-append : (k : ℕ) (xs : List Section) (placed : List ℕ) (more : List Numbered) (others : List ℕ) → length placed ≡ length xs
    → extents (enumerate_from k xs ++ more) (placed ++ others) ≡ extents (enumerate_from k xs) placed ++ extents more others
extents-append k [] [] more others same = refl
extents-append k [] (b ∷ placed) more others same = absurd (omega (arith, same))
extents-append k (x ∷ xs) [] more others same = absurd (omega (arith, same))
extents-append k (x ∷ xs) (b ∷ placed) more others same = by_case (x.size == 0) (extents-append (k + 1) xs placed more others (omega (arith, same))) where
  by_case : (empty : Bool) → extents (enumerate_from (k + 1) xs ++ more) (placed ++ others) ≡ extents (enumerate_from (k + 1) xs) placed ++ extents more others
      → (if empty then extents (enumerate_from (k + 1) xs ++ more) (placed ++ others)
      else record { base = b; section = k; size = x.size } ∷ extents (enumerate_from (k + 1) xs ++ more) (placed ++ others))
      ≡ (if empty then extents (enumerate_from (k + 1) xs) placed
      else record { base = b; section = k; size = x.size } ∷ extents (enumerate_from (k + 1) xs) placed) ++ extents more others
  by_case true later = later
  by_case false later = ap (λ rest. record { base = b; section = k; size = x.size } ∷ rest) later

ordered_at : (xs : List Extent) → InOrder xs → (x y : Extent) (i j : ℕ) → i < j → slice_get xs i ≡ Some x → slice_get xs j ≡ Some y → Comes x y
ordered_at [] o x y i j less a b = absurd cc
ordered_at (z ∷ xs) o x y zero zero less a b = absurd (omega (arith, less))
ordered_at (z ∷ xs) o x y zero (suc j) less a b = let same : z ≡ x = cc in subst (λ w. Comes w y) same (o.0 y j b)
ordered_at (z ∷ xs) o x y (suc i) zero less a b = absurd (omega (arith, less))
ordered_at (z ∷ xs) o x y (suc i) (suc j) less a b = ordered_at xs o.1 x y i j (omega (arith, less)) a b

front : (xs ys : List Extent) (x : Extent) → StandsIn x xs → StandsIn x (xs ++ ys)
front xs ys x h = (h.0, at xs h.0 h.1) where
  at : (xs : List Extent) (i : ℕ) → slice_get xs i ≡ Some x → slice_get (xs ++ ys) i ≡ Some x
  at [] i e = absurd cc
  at (z ∷ xs) zero e = e
  at (z ∷ xs) (suc i) e = at xs i e

-- a part of extents of which no two overlap
part-fits : (xs ys : List Extent) → IsDistinct same_section xs → IsDistinct same_section (xs ++ ys) → first_overlap (in_order (xs ++ ys)) ≡ None
    → first_overlap (in_order xs) ≡ None
part-fits xs ys own all e = by_overlap (first_overlap (in_order xs)) refl where
  ordered : InOrder (in_order (xs ++ ys))
  ordered = in_order-InOrder (xs ++ ys) all

  there : (x : Extent) → StandsIn x (in_order xs) → StandsIn x (in_order (xs ++ ys))
  there x h = let member = in_order_members xs x h.0 h.1 in let more = front xs ys x member in in_order_keeps (xs ++ ys) x more.0 more.1

  by_order : (x y : Extent) → Comes x y → y.base < x.base + x.size → (i j : ℕ) → slice_get (in_order (xs ++ ys)) i ≡ Some x
      → slice_get (in_order (xs ++ ys)) j ≡ Some y → (b c : Bool) → nat_lt i j ≡ b → nat_lt j i ≡ c → ⊥
  by_order x y comes shared i j a b true c less more =
      let end = apart (in_order (xs ++ ys)) ordered e x y i j (less_of i j less) a b in omega (arith, end, shared)
  by_order x y comes shared i j a b false true less more =
      comes_one_way x y comes (ordered_at (in_order (xs ++ ys)) ordered y x j i (less_of j i more) b a)
  by_order x y comes shared i j a b false false less more =
      let low = false_less i j less in let high = false_less j i more in
      let same : i ≡ j = omega (arith, low, high) in
      let equal : Some x ≡ Some y = sym a ∙ ap (slice_get (in_order (xs ++ ys))) same ∙ b in
      let one : x ≡ y = cc in
      comes_one_way x y comes (subst (λ z. Comes z x) one (subst (Comes x) (sym one) comes))

  found : (fact : PlaceRefusal) → first_overlap (in_order xs) ≡ Some fact → ⊥
  found fact f =
      let two = overlap_at (in_order xs) (in_order-InOrder xs own) fact f in
      let x = there two.0 two.2.0 in let y = there two.1 two.2.1 in
      by_order two.0 two.1 two.2.2 two.2.3 x.0 y.0 x.1 y.1 (nat_lt x.0 y.0) (nat_lt y.0 x.0) refl refl

  by_overlap : (o : Option PlaceRefusal) → first_overlap (in_order xs) ≡ o → o ≡ None
  by_overlap None f = refl
  by_overlap (Some fact) f = absurd (found fact f)

pub fits_without_copies : FitsWithoutCopies
fits_without_copies width plan sections commons copied e =
    let parts = or_none (first_some (unplaced_at (listed_names plan.regions)) (numbered sections)) _ e in
    let rest = or_none (first_some (misfit_by (2 ^ width) plan.regions given) (numbered whole)) _ parts.1 in
    ap (λ o. o or_else (first_some (misfit_at (2 ^ width) plan sections commons) (numbered (sections ++ commons))
    or_else first_overlap (in_order (extents (numbered (sections ++ commons)) (bases plan sections commons))))) parts.0
    ∙ ap (λ o. o or_else first_overlap (in_order (extents (numbered (sections ++ commons)) (bases plan sections commons)))) (misfits rest.0)
    ∙ overlaps rest.1 where
      given : List Placing
      given = all_placings plan sections commons copied

      whole : List Section
      whole = all_sections sections commons copied

      others : List Numbered
      others = enumerate_from (0 + length (sections ++ commons)) (copy_sections copied)

      stays : (n : ℕ) (s : Section) → n < length (sections ++ commons)
          → misfit_at (2 ^ width) plan sections commons (n, s) ≡ misfit_by (2 ^ width) plan.regions given (n, s)
      stays n s low =
          let total = length-append sections commons in
          ap (λ o. misfit_with (2 ^ width) plan.regions n s.size (site_with s.base o))
          (sym (placing-before plan.regions whole (placings plan sections commons) (length sections + length commons) copied n (omega (arith, low, total))))

      misfits : first_some (misfit_by (2 ^ width) plan.regions given) (numbered whole) ≡ None
          → first_some (misfit_at (2 ^ width) plan sections commons) (numbered (sections ++ commons)) ≡ None
      misfits f =
          same-first (misfit_at (2 ^ width) plan sections commons) (misfit_by (2 ^ width) plan.regions given) (length (sections ++ commons)) 0
          (sections ++ commons) stays (omega arith)
          ∙ first_some-append (misfit_by (2 ^ width) plan.regions given) (numbered (sections ++ commons)) others
          (ap (first_some (misfit_by (2 ^ width) plan.regions given)) (sym (enumerate-append 0 (sections ++ commons) (copy_sections copied))) ∙ f)

      overlaps : first_overlap (in_order (extents (numbered whole) (all_bases plan sections commons copied))) ≡ None
          → first_overlap (in_order (extents (numbered (sections ++ commons)) (bases plan sections commons))) ≡ None
      overlaps f =
          let moved = copies_move_nothing plan sections commons copied in
          let sized = length-map (numbered (sections ++ commons)) (λ (s : Numbered). (site_of plan sections commons s).base)
          ∙ length-enumerate_from 0 (sections ++ commons) in
          let cut = (λ i. extents (enumerate-append 0 (sections ++ commons) (copy_sections copied) i) (moved.1 i))
          ∙ extents-append 0 (sections ++ commons) (bases plan sections commons) others moved.0 sized in
          part-fits (extents (numbered (sections ++ commons)) (bases plan sections commons)) (extents others moved.0)
          (extents-distinct 0 (sections ++ commons) (bases plan sections commons))
          (subst (IsDistinct same_section) cut (extents-distinct 0 whole (all_bases plan sections commons copied)))
          (ap (λ xs. first_overlap (in_order xs)) (sym cut) ∙ f)
