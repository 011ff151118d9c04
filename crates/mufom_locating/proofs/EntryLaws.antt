-- The entries of regions' lists, found region by region.
use Rattle.std.proofs.Common.{◌≡◌, ℕ, zero, suc, ◌+◌, ◌-◌, ◌<◌, ◌≤◌, List, [], ◌∷◌, ◌++◌, length, map, take, drop, get_or, refl, sym, ap, subst, ◌∙◌}
use Rattle.std.proofs.Common.{Option, Some, None, Bool, true, false, append_assoc, arith}
use Rattle.std.specs.Prelude.{position, slice_get, unwrap_or}
use Rattle.std.specs.List.{enumerate_from, flat_map}
use Rattle.std.specs.Str.{bytes_eq}
use Rattle.std.proofs.Math.ListN.{length-map}
use Rattle.std.proofs.Math.Seq.{take-append_seam, drop-append_seam}
use Rattle.std.proofs.lemmas.List.{map-append, take-map, get_or-map}
use Rattle.std.proofs.lemmas.List.Quantifiers.{position-Some}
use Rattle.std.proofs.lemmas.Slice.Eq.{bytes_eq-Decides}
use Rattle.mufom_plan.specs.declared.plan.Region.{Region}
use Rattle.mufom_plan.specs.Names.{has_name, listed_names}
use Rattle.mufom_place.specs.declared.placing.Waiting.{Waiting}
use Rattle.mufom_planned.specs.Layout.{base_in}
use Rattle.mufom_planned.specs.Numbers.{entries_before, first_base, last_end}
use Rattle.mufom_locating.proofs.ListLaws.{rest-next}

-- the names that are left begin with those of the next region
pub listed-next : (regions : List Region) (k : ℕ) (region : Region) → k < length regions → region ≡ get_or regions k region
    → listed_names (drop k regions) ≡ region.sections ++ listed_names (drop (k + 1) regions)
listed-next regions k region less is = ap listed_names (rest-next regions k region less is)

module _ (f : List ℕ → List Waiting) (rest : List (List Waiting)) (names more : List (List ℕ)) (is : rest ≡ map f (names ++ more)) where
  both : rest ≡ map f names ++ map f more
  both = is ∙ map-append f names more

  pub front-lists : take (length names) rest ≡ map f names
  front-lists = (λ i. take (sym (length-map names f) i) (both i)) ∙ take-append_seam (map f names) (map f more)

  pub back-lists : drop (length names) rest ≡ map f more
  back-lists = (λ i. drop (sym (length-map names f) i) (both i)) ∙ drop-append_seam (map f names) (map f more)

-- ---- an entry at a position of a list

module _ (entry : List ℕ) (names : List (List ℕ)) (at : ℕ) (found : position (bytes_eq entry) names ≡ Some at) where
  pub at-entry : get_or names at [] ≡ entry
  at-entry = sym ((bytes_eq-Decides entry (get_or names at [])).0 (position-Some (bytes_eq entry) names at [] found).1)

  pub at-low : at < length names
  at-low = (position-Some (bytes_eq entry) names at [] found).0

  pub before-entry : entries_before entry names ≡ take at names
  before-entry = ap (λ o. take (unwrap_or o 0) names) found

  module _ (f : List ℕ → List Waiting) (lists : List (List Waiting)) (are : lists ≡ map f names) where
    pub before-lists : take at lists ≡ map f (entries_before entry names)
    before-lists = ap (take at) are ∙ take-map f at names ∙ ap (map f) (sym before-entry)

    pub own-list : (other : List Waiting) → get_or lists at other ≡ f entry
    own-list other = ap (λ xs. get_or xs at other) are ∙ get_or-map f names at [] other at-low ∙ ap f at-entry

-- ---- ends

-- the last of some sections decides where they end
pub end-append : (placed : List ℕ) (number : ℕ) (xs ys : List Waiting) → last_end placed number (xs ++ ys) ≡ last_end placed (last_end placed number xs) ys
end-append placed number [] ys = refl
end-append placed number (w ∷ xs) ys = end-append placed (base_in placed w.section + w.size) xs ys

pub end-last : (placed : List ℕ) (number : ℕ) (xs : List Waiting) (w : Waiting) → last_end placed number (xs ++ w ∷ []) ≡ base_in placed w.section + w.size
end-last placed number xs w = end-append placed number xs (w ∷ [])

pub joined-mapped : {A B : Type 0} (f : A → List B) (xs : List A) → flat_map (λ own. own) (map f xs) ≡ flat_map f xs
joined-mapped f [] = refl
joined-mapped f (x ∷ xs) = ap (λ rest. f x ++ rest) (joined-mapped f xs)

pub end-of-last : (placed : List ℕ) (number : ℕ) (xs : List Waiting) (w : Waiting) → Some w ≡ slice_get xs (length xs - 1)
    → base_in placed w.section + w.size ≡ last_end placed number xs
end-of-last placed number [] w e = absurd cc
end-of-last placed number (x ∷ []) w e = let same : w ≡ x = cc in ap (λ (v : Waiting). base_in placed v.section + v.size) same
end-of-last placed number (x ∷ y ∷ xs) w e =
    let place : length (x ∷ y ∷ xs) - 1 ≡ suc (length (y ∷ xs) - 1) = omega arith in
    end-of-last placed (base_in placed x.section + x.size) (y ∷ xs) w (e ∙ ap (slice_get (x ∷ y ∷ xs)) place)
