-- What keeps sections and commons from being placed, other than an overlap, also keeps them from being placed with copies.
use Rattle.std.proofs.Common.{◌≡◌, ◌≢◌, ℕ, ◌+◌, ◌<◌, ◌≤◌, ◌^◌, List, [], ◌∷◌, ◌++◌, length, Option, Some, None, Bool, true, false, refl, sym, ap, ◌∙◌}
use Rattle.std.proofs.Common.{arith, length-append}
use Rattle.std.specs.Prelude.{nat_lt, if◌then◌else◌}
use Rattle.std.specs.List.{enumerate_from}
use Rattle.mufom_sections.specs.declared.section.Section.{Section}
use Rattle.mufom_plan.specs.declared.plan.Plan.{Plan}
use Rattle.mufom_plan.specs.Names.{listed_names}
use Rattle.mufom_place.specs.declared.placing.Extent.{Extent}
use Rattle.mufom_place.specs.declared.placing.Placing.{Placing}
use Rattle.mufom_place.specs.declared.placing.RegionCopy.{RegionCopy}
use Rattle.mufom_place.specs.declared.refusal.PlaceRefusal.{PlaceRefusal}
use Rattle.mufom_place.specs.declared.refusal.PlaceRefusal.TheVariants.{Misfit, NoMemory, Overlap, Unplaced}
use Rattle.mufom_place.specs.Bases.{Numbered, bases, numbered, placings, site_by, site_with}
use Rattle.mufom_place.specs.Copies.{all_bases, all_placings, all_refusal, all_sections, copy_sections}
use Rattle.mufom_place.specs.Facts.{◌or_else◌, extents, first_overlap, first_some, in_order, is_misfit, is_unplaced, misfit_at, misfit_by, misfit_with}
use Rattle.mufom_place.specs.Facts.{place_refusal, unplaced_at}
use Rattle.mufom_place.proofs.CopyLaws.{placing-before}
use Rattle.mufom_locating.specs.Placed.{is_overlap}

-- ---- which errors are found

overlap-only : (xs : List Extent) (r : PlaceRefusal) → first_overlap xs ≡ Some r → (m : ℕ) × (n : ℕ) × (r ≡ Overlap m n)
overlap-only [] r e = absurd cc
overlap-only (x ∷ []) r e = absurd cc
overlap-only (x ∷ y ∷ more) r e = by_case (nat_lt y.base (x.base + x.size)) e (overlap-only (y ∷ more) r) where
  by_case : (b : Bool) → (if b then Some (Overlap x.section y.section) else first_overlap (y ∷ more)) ≡ Some r
      → (first_overlap (y ∷ more) ≡ Some r → (m : ℕ) × (n : ℕ) × (r ≡ Overlap m n)) → (m : ℕ) × (n : ℕ) × (r ≡ Overlap m n)
  by_case true h later = (x.section, y.section, (let same : Overlap x.section y.section ≡ r = cc in sym same))
  by_case false h later = later h

either-never : {A : Type 0} (x : A) (o u : Option A) → o ≢ Some x → u ≢ Some x → (o or_else u) ≢ Some x
either-never x None u first second = second
either-never x (Some y) u first second = first

chosen-never : {A : Type 0} (x y : A) → y ≢ x → (b : Bool) → (if b then Some y else None) ≢ Some x
chosen-never x y other true = λ same. let is : y ≡ x = cc in other is
chosen-never x y other false = λ same. cc

first-never : {A B : Type 0} (f : A → Option B) (x : B) → ((a : A) → f a ≢ Some x) → (xs : List A) → first_some f xs ≢ Some x
first-never f x other [] = λ same. cc
first-never f x other (a ∷ xs) = either-never x (f a) (first_some f xs) (other a) (first-never f x other xs)

-- ---- the first error of several kinds

or-assoc : {A : Type 0} (o p q : Option A) → ((o or_else p) or_else q) ≡ (o or_else (p or_else q))
or-assoc None p q = refl
or-assoc (Some x) p q = refl

-- a value that is not the last is also found where more stand before the last
still-first : {A : Type 0} (u p o x q : Option A) (r : A) → o ≢ Some r → (u or_else (p or_else o)) ≡ Some r → (u or_else ((p or_else x) or_else q)) ≡ Some r
still-first (Some a) p o x q r other e = e
still-first None (Some a) o x q r other e = e
still-first None None o x q r other e = absurd (other e)

middle-none : {A : Type 0} (u p o : Option A) → (u or_else (p or_else o)) ≡ None → p ≡ None
middle-none (Some a) p o e = absurd cc
middle-none None (Some a) o e = absurd cc
middle-none None None o e = refl

middle-absent : {A : Type 0} (u p o : Option A) (r : A) → u ≢ Some r → p ≢ Some r → (u or_else (p or_else o)) ≡ Some r → p ≡ None
middle-absent (Some a) p o r first second e = absurd (first e)
middle-absent None (Some a) o r first second e = absurd (second e)
middle-absent None None o r first second e = refl

-- ---- sections and commons before copies

first-append : {A B : Type 0} (f : A → Option B) (xs ys : List A) → first_some f (xs ++ ys) ≡ (first_some f xs or_else first_some f ys)
first-append f [] ys = refl
first-append f (x ∷ xs) ys = ap (λ o. f x or_else o) (first-append f xs ys) ∙ sym (or-assoc (f x) (first_some f xs) (first_some f ys))

enumerate-append : {X : Type 0} (k : ℕ) (xs ys : List X) → enumerate_from k (xs ++ ys) ≡ enumerate_from k xs ++ enumerate_from (k + length xs) ys
enumerate-append k [] ys = let none : k ≡ k + 0 = omega arith in ap (λ n. enumerate_from n ys) none
enumerate-append k (x ∷ xs) ys =
    let next : (k + 1) + length xs ≡ k + length (x ∷ xs) = omega arith in
    ap (λ more. (k, x) ∷ more) (enumerate-append (k + 1) xs ys ∙ ap (λ n. enumerate_from (k + 1) xs ++ enumerate_from n ys) next)

-- tests that agree below a bound find the same among the sections below it
same-first : (f g : Numbered → Option PlaceRefusal) (bound k : ℕ) (sections : List Section) → ((n : ℕ) (s : Section) → n < bound → f (n, s) ≡ g (n, s))
    → k + length sections ≤ bound → first_some f (enumerate_from k sections) ≡ first_some g (enumerate_from k sections)
same-first f g bound k [] same low = refl
same-first f g bound k (s ∷ sections) same low =
    let here : k < bound = omega (arith, low) in
    let rest = same-first f g bound (k + 1) sections same (omega (arith, low)) in
    λ i. same k s here i or_else rest i

module _ (width : ℕ) (plan : Plan) (sections commons : List Section) where
  abbrev unplaced : Option PlaceRefusal
  unplaced = first_some (unplaced_at (listed_names plan.regions)) (numbered sections)

  abbrev misfit : Option PlaceRefusal
  misfit = first_some (misfit_at (2 ^ width) plan sections commons) (numbered (sections ++ commons))

  abbrev overlap : Option PlaceRefusal
  overlap = first_overlap (in_order (extents (numbered (sections ++ commons)) (bases plan sections commons)))

  unplaced-never : (m n : ℕ) → unplaced ≢ Some (Overlap m n)
  unplaced-never m n = first-never (unplaced_at (listed_names plan.regions)) (Overlap m n)
      (λ s. chosen-never (Overlap m n) (Unplaced s.0) (λ same. cc) (is_unplaced (listed_names plan.regions) s.1)) (numbered sections)

  misfit-never : (m n : ℕ) → misfit ≢ Some (Overlap m n)
  misfit-never m n = first-never (misfit_at (2 ^ width) plan sections commons) (Overlap m n)
      (λ s. let site = site_by (placings plan sections commons) s in
      chosen-never (Overlap m n) (Misfit s.0 site.region) (λ same. cc) (is_misfit (2 ^ width) plan.regions site s.1.size)) (numbered (sections ++ commons))

  -- nothing is a misfit if there is no error, or an overlap
  pub room-placed : place_refusal width plan sections commons ≡ None → misfit ≡ None
  room-placed e = middle-none unplaced misfit overlap e

  pub room-overlapped : (r : PlaceRefusal) → is_overlap r ≡ true → place_refusal width plan sections commons ≡ Some r → misfit ≡ None
  room-overlapped (Overlap m n) is e = middle-absent unplaced misfit overlap (Overlap m n) (unplaced-never m n) (misfit-never m n) e
  room-overlapped (Unplaced n) is e = absurd cc
  room-overlapped (Misfit n region) is e = absurd cc
  room-overlapped NoMemory is e = absurd cc

  module _ (copied : List RegionCopy) where
    abbrev whole : List Section
    whole = all_sections sections commons copied

    abbrev given : List Placing
    given = all_placings plan sections commons copied

    abbrev copy_misfit : Option PlaceRefusal
    copy_misfit = first_some (misfit_by (2 ^ width) plan.regions given) (enumerate_from (0 + length (sections ++ commons)) (copy_sections copied))

    stays : (n : ℕ) (s : Section) → n < length (sections ++ commons)
        → misfit_by (2 ^ width) plan.regions given (n, s) ≡ misfit_at (2 ^ width) plan sections commons (n, s)
    stays n s low =
        let total = length-append sections commons in
        ap (λ o. misfit_with (2 ^ width) plan.regions n s.size (site_with s.base o))
        (placing-before plan.regions whole (placings plan sections commons) (length sections + length commons) copied n (omega (arith, low, total)))

    misfits : first_some (misfit_by (2 ^ width) plan.regions given) (numbered whole) ≡ (misfit or_else copy_misfit)
    misfits =
        ap (first_some (misfit_by (2 ^ width) plan.regions given)) (enumerate-append 0 (sections ++ commons) (copy_sections copied))
        ∙ first-append (misfit_by (2 ^ width) plan.regions given) (numbered (sections ++ commons))
        (enumerate_from (0 + length (sections ++ commons)) (copy_sections copied))
        ∙ ap (λ o. o or_else copy_misfit)
        (same-first (misfit_by (2 ^ width) plan.regions given) (misfit_at (2 ^ width) plan sections commons) (length (sections ++ commons)) 0
        (sections ++ commons) stays (omega arith))

    -- the error without copies is the one with copies, if it is no overlap
    pub first-error : (r : PlaceRefusal) → is_overlap r ≡ false → place_refusal width plan sections commons ≡ Some r
        → all_refusal width plan sections commons copied ≡ Some r
    first-error r other e =
        let last = first_overlap (in_order (extents (numbered whole) (all_bases plan sections commons copied))) in
        ap (λ o. unplaced or_else (o or_else last)) misfits
        ∙ still-first unplaced misfit overlap copy_misfit last r
        (λ found. let is = overlap-only (in_order (extents (numbered (sections ++ commons)) (bases plan sections commons))) r found in
        (let both : true ≡ false = sym (ap is_overlap is.2) ∙ other in cc)) e
