-- Sections, commons and copies that a plan places fit at their bases without regions.
use Rattle.std.proofs.Common.{◌≡◌, ℕ, ◌+◌, ◌^◌, List, [], ◌∷◌, ◌++◌, map, length, Option, Some, None, Bool, true, false, ◌||◌, refl, sym, ◌∙◌, ap, subst, arith}
use Rattle.std.specs.Prelude.{slice_get, nat_le, nat_lt, ◌==◌, if◌then◌else◌}
use Rattle.std.specs.List.{enumerate_from}
use Rattle.std.proofs.lemmas.List.{append-nil, append_assoc}
use Rattle.mufom_sections.specs.declared.section.Section.{Section}
use Rattle.mufom_plan.specs.declared.plan.Region.{Region}
use Rattle.mufom_place.specs.declared.placing.Placing.{Placing}
use Rattle.mufom_place.specs.declared.refusal.PlaceRefusal.TheVariants.{Misfit}
use Rattle.mufom_place.specs.Bases.{Numbered, numbered, placings, placing_of, site_with, site_by}
use Rattle.mufom_place.specs.Copies.{bases_by, fit_refusal}
use Rattle.mufom_place.specs.Facts.{◌or_else◌, first_some, unplaced_at, misfit_by, misfit_at, is_past, is_misfit, extents, in_order, first_overlap}
use Rattle.mufom_place.specs.Facts.{place_refusal}
use Rattle.mufom_meaning.specs.Location.{placed_section, placed_sections}
use Rattle.mufom_meaning.specs.Absolute.{no_regions}
use Rattle.mufom_meaning.proofs.Tests.{chosen_none, either_false}

-- a section at a base, with its position
abbrev pub section_at : (Numbered → ℕ) → Numbered → Section
section_at f t = record t.1 { absolute = true; base = Some (f t) }

abbrev numbered_at : (Numbered → ℕ) → Numbered → Numbered
numbered_at f t = (t.0, section_at f t)

get_last : (front more : List ℕ) (x : ℕ) → slice_get (front ++ x ∷ more) (length front) ≡ Some x
get_last [] more x = refl
get_last (y ∷ front) more x = get_last front more x

-- the bases are one for each section
placed_from : (f : Numbered → ℕ) (front : List ℕ) (sections : List Section) → let k = length front in
    map (placed_section (front ++ map f (enumerate_from k sections))) (enumerate_from k sections) ≡ map (section_at f) (enumerate_from k sections)
placed_from f front [] = refl
placed_from f front (x ∷ sections) =
    let k = length front in
    let here = get_last front (map f (enumerate_from (k + 1) sections)) (f (k, x)) in
    let next : length (front ++ f (k, x) ∷ []) ≡ k + 1 = longer front (f (k, x)) in
    let later = subst (λ n. map (placed_section ((front ++ f (k, x) ∷ []) ++ map f (enumerate_from n sections))) (enumerate_from n sections)
    ≡ map (section_at f) (enumerate_from n sections)) next (placed_from f (front ++ f (k, x) ∷ []) sections) in
    let all = append_assoc front (f (k, x) ∷ []) (map f (enumerate_from (k + 1) sections)) in
    let rest = ap (λ bs. map (placed_section bs) (enumerate_from (k + 1) sections)) (sym all) ∙ later in
    λ i. record x { absolute = true; base = here i } ∷ rest i
  where
    longer : (front : List ℕ) (x : ℕ) → length (front ++ x ∷ []) ≡ length front + 1
    longer [] x = refl
    longer (y ∷ front) x = let rest = longer front x in omega (arith, rest)

pub placed_at : (f : Numbered → ℕ) (sections : List Section) → placed_sections (map f (numbered sections)) sections ≡ map (section_at f) (numbered sections)
placed_at f sections = placed_from f [] sections

numbers_again : (f : Numbered → ℕ) (k : ℕ) (sections : List Section)
    → enumerate_from k (map (section_at f) (enumerate_from k sections)) ≡ map (numbered_at f) (enumerate_from k sections)
numbers_again f k [] = refl
numbers_again f k (x ∷ sections) = ap (λ more. (k, section_at f (k, x)) ∷ more) (numbers_again f (k + 1) sections)

-- ---- each of the errors

none_of : {A : Type 0} (o p : Option A) → o or_else p ≡ None → (o ≡ None) × (p ≡ None)
none_of None p e = (refl, e)
none_of (Some x) p e = absurd cc

module _ (f : Numbered → ℕ) where
  none_unplaced : (ts : List Numbered) → first_some (unplaced_at []) (map (numbered_at f) ts) ≡ None
  none_unplaced [] = refl
  none_unplaced (t ∷ ts) = none_unplaced ts

  same_extents : (ts : List Numbered) → extents (map (numbered_at f) ts) (map f ts) ≡ extents ts (map f ts)
  same_extents [] = refl
  same_extents (t ∷ ts) = let rest = same_extents ts in
      λ i. if t.1.size == 0 then rest i else record { base = f t; section = t.0; size = t.1.size } ∷ rest i

  module _ (width : ℕ) (regions : List Region) (given : List Placing) (same : (t : Numbered) → f t ≡ (site_by given t).base) where
    fits_there : (t : Numbered) → misfit_by (2 ^ width) regions given t ≡ None
        → is_misfit (2 ^ width) [] (record { base = f t; region = None }) t.1.size ≡ false
    fits_there t e =
        let site = site_by given t in
        let all = chosen_none (is_misfit (2 ^ width) regions site t.1.size) _ e in
        let inside = either_false (nat_le (2 ^ width) site.base || nat_lt (2 ^ width) (site.base + t.1.size))
        (is_past regions site.region (site.base + t.1.size)) all in
        ap (λ b. (nat_le (2 ^ width) b || nat_lt (2 ^ width) (b + t.1.size)) || false) (same t)
        ∙ ap (λ b. b || false) inside.0

    none_misfit : (others : List Placing) (ts : List Numbered) → first_some (misfit_by (2 ^ width) regions given) ts ≡ None
        → first_some (misfit_by (2 ^ width) [] others) (map (numbered_at f) ts) ≡ None
    none_misfit others [] e = refl
    none_misfit others (t ∷ ts) e =
        let parts = none_of (misfit_by (2 ^ width) regions given t) (first_some (misfit_by (2 ^ width) regions given) ts) e in
        ap (λ (b : Bool). (if b then Some (Misfit t.0 None) else None) or_else first_some (misfit_by (2 ^ width) [] others) (map (numbered_at f) ts))
        (fits_there t parts.0)
        ∙ none_misfit others ts parts.1

-- what fits at bases, fits there without regions
pub placed_again : (width : ℕ) (regions : List Region) (given : List Placing) (whole : List Section) → fit_refusal width regions given whole ≡ None
    → place_refusal width no_regions (placed_sections (bases_by given whole) whole) [] ≡ None
placed_again width regions given whole e =
    ap (λ sections. place_refusal width no_regions sections []) (placed_at f whole)
    ∙ (λ i. unplaced i or_else (first_some (misfit_at (2 ^ width) no_regions placed []) (numbers i)
    or_else first_overlap (in_order (extents (numbers i) (map base_again (numbers i))))))
    ∙ (λ i. misfits i or_else first_overlap (in_order (extents (map (numbered_at f) ts) (based i))))
    ∙ ap (λ xs. first_overlap (in_order xs)) (same_extents f ts)
    ∙ parts.1
  where
    f : Numbered → ℕ
    f t = (site_by given t).base

    ts : List Numbered
    ts = numbered whole

    placed : List Section
    placed = map (section_at f) ts

    parts : (first_some (misfit_by (2 ^ width) regions given) ts ≡ None) × (first_overlap (in_order (extents ts (map f ts))) ≡ None)
    parts = none_of (first_some (misfit_by (2 ^ width) regions given) ts) (first_overlap (in_order (extents ts (map f ts)))) e

    base_again : Numbered → ℕ
    base_again s = (site_with s.1.base (placing_of (placings no_regions placed []) s.0)).base

    numbers : numbered (placed ++ []) ≡ map (numbered_at f) ts
    numbers = ap numbered (append-nil placed) ∙ numbers_again f 0 whole

    unplaced : first_some (unplaced_at []) (numbered placed) ≡ None
    unplaced = ap (first_some (unplaced_at [])) (numbers_again f 0 whole) ∙ none_unplaced f ts

    misfits : first_some (misfit_at (2 ^ width) no_regions placed []) (map (numbered_at f) ts) ≡ None
    misfits = none_misfit f width regions given (λ t. refl) (placings no_regions placed []) ts parts.0

    based : map base_again (map (numbered_at f) ts) ≡ map f ts
    based = bases_there ts where
      bases_there : (ts : List Numbered) → map base_again (map (numbered_at f) ts) ≡ map f ts
      bases_there [] = refl
      bases_there (t ∷ more) = ap (λ rest. f t ∷ rest) (bases_there more)
