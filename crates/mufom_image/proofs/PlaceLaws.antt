-- The positions of names among distinct names that grow at their end, and lists made of distinct names of which one changes.
use Rattle.std.proofs.Common.{◌≡◌, ℕ, zero, suc, ◌+◌, List, [], ◌∷◌, ◌++◌, length, map, Some, None, Bool, true, false, ◌||◌, if◌then◌else◌, refl, sym}
use Rattle.std.proofs.Common.{ap, ◌∙◌, append_assoc, append-nil, arith}
use Rattle.std.specs.Prelude.{slice_get, slice_set}
use Rattle.std.specs.List.{AllByRecursion, IsDistinct}
use Rattle.std.specs.Str.{bytes_eq}
use Rattle.std.proofs.lemmas.Slice.Eq.{bytes_eq-Decides}
use Rattle.std.proofs.lemmas.Map.Keys.{IsDistinct-head, IsDistinct-tail}
use Rattle.mufom_names.specs.Index.{position_of, numbered_from}
use Rattle.mufom_plan.specs.Names.{has_name}
use Rattle.mufom_meaning.specs.Flat.{distinct}
use Rattle.mufom_meaning.proofs.Tests.{either_false}
use Rattle.mufom_image_values.specs.Names.{place_in, with_name}
use Rattle.mufom_image_values.proofs.NameLaws.{names_after, names_after-distinct}
use Rattle.mufom_image.proofs.SizeLaws.{apart}

-- ---- distinct names that grow

names_after-append : (names xs ys : List (List ℕ)) → names_after names (xs ++ ys) ≡ names_after (names_after names xs) ys
names_after-append names [] ys = refl
names_after-append names (x ∷ xs) ys = names_after-append (with_name names x) xs ys

names_after-extends : (names xs : List (List ℕ)) → (extra : List (List ℕ)) × (names_after names xs ≡ names ++ extra)
names_after-extends names [] = ([], sym (append-nil names))
names_after-extends names (x ∷ xs) = by_case (has_name names x) (names_after-extends names xs) (names_after-extends (names ++ x ∷ []) xs) where
  by_case : (b : Bool) → (extra : List (List ℕ)) × (names_after names xs ≡ names ++ extra)
      → (extra : List (List ℕ)) × (names_after (names ++ x ∷ []) xs ≡ (names ++ x ∷ []) ++ extra)
      → (extra : List (List ℕ)) × (names_after (if b then names else names ++ x ∷ []) xs ≡ names ++ extra)
  by_case true there later = there
  by_case false there later = (x ∷ later.0, later.1 ∙ append_assoc names (x ∷ []) later.0)

-- the distinct names with one name more
pub distinct-push : (xs : List (List ℕ)) (x : List ℕ) → distinct bytes_eq (xs ++ x ∷ []) ≡ with_name (distinct bytes_eq xs) x
distinct-push xs x =
    sym (names_after-distinct (xs ++ x ∷ [])) ∙ names_after-append [] xs (x ∷ []) ∙ ap (λ names. with_name names x) (names_after-distinct xs)

-- the distinct names of more names begin with those of fewer
pub distinct-extends : (xs ys : List (List ℕ)) → (extra : List (List ℕ)) × (distinct bytes_eq (xs ++ ys) ≡ distinct bytes_eq xs ++ extra)
distinct-extends xs ys =
    let later = names_after-extends (names_after [] xs) ys in (
      later.0,
      sym (names_after-distinct (xs ++ ys)) ∙ names_after-append [] xs ys ∙ later.1 ∙ ap (λ names. names ++ later.0) (names_after-distinct xs),
    )

-- ---- positions

place-prefix-from : (n : ℕ) (names extra : List (List ℕ)) (name : List ℕ) → has_name names name ≡ true
    → position_of (numbered_from n (names ++ extra)) name ≡ position_of (numbered_from n names) name
place-prefix-from n [] extra name there = absurd cc
place-prefix-from n (x ∷ names) extra name there = by_case (bytes_eq name x) there (place-prefix-from (suc n) names extra name) where
  by_case : (b : Bool) → (b || has_name names name) ≡ true
      → (has_name names name ≡ true → position_of (numbered_from (suc n) (names ++ extra)) name ≡ position_of (numbered_from (suc n) names) name)
      → (if b then Some n else position_of (numbered_from (suc n) (names ++ extra)) name)
      ≡ (if b then Some n else position_of (numbered_from (suc n) names) name)
  by_case true h later = refl
  by_case false h later = later h

-- a name keeps its position if more names follow
pub place-prefix : (names extra : List (List ℕ)) (name : List ℕ) → has_name names name ≡ true → place_in (names ++ extra) name ≡ place_in names name
place-prefix names extra name there = place-prefix-from 0 names extra name there

place-end-from : (n : ℕ) (names : List (List ℕ)) (name : List ℕ) → has_name names name ≡ false
    → position_of (numbered_from n (names ++ name ∷ [])) name ≡ Some (n + length names)
place-end-from n [] name none =
    let last : n ≡ n + 0 = omega arith in
    ap (λ b. if b then Some n else None) ((bytes_eq-Decides name name).1 refl) ∙ ap Some last
place-end-from n (x ∷ names) name none =
    let two = either_false (bytes_eq name x) (has_name names name) none in
    let count : suc n + length names ≡ n + suc (length names) = omega arith in
    ap (λ b. if b then Some n else position_of (numbered_from (suc n) (names ++ name ∷ [])) name) two.0
    ∙ place-end-from (suc n) names name two.1
    ∙ ap Some count

-- a new name comes after the others
pub place-end : (names : List (List ℕ)) (name : List ℕ) → has_name names name ≡ false → place_in (names ++ name ∷ []) name ≡ Some (length names)
place-end names name none =
    let count : 0 + length names ≡ length names = omega arith in
    place-end-from 0 names name none ∙ ap Some count

-- a name at the end is there
pub has-last : (names : List (List ℕ)) (name : List ℕ) → has_name (names ++ name ∷ []) name ≡ true
has-last [] name = ap (λ b. b || false) ((bytes_eq-Decides name name).1 refl)
has-last (x ∷ names) name = by_case (bytes_eq name x) (has-last names name) where
  by_case : (b : Bool) → has_name (names ++ name ∷ []) name ≡ true → (b || has_name (names ++ name ∷ []) name) ≡ true
  by_case true h = refl
  by_case false h = h

-- ---- lists made of names

module _ {A : Type 0} (f g : List ℕ → A) where
  pub unchanged : (x : List ℕ) → ((y : List ℕ) → bytes_eq x y ≡ false → g y ≡ f y) → (xs : List (List ℕ)) → has_name xs x ≡ false → map g xs ≡ map f xs
  unchanged x others [] none = refl
  unchanged x others (y ∷ xs) none =
      let two = either_false (bytes_eq x y) (has_name xs x) none in
      let here = others y two.0 in
      let rest = unchanged x others xs two.1 in
      λ i. here i ∷ rest i

  unchanged-after : (x : List ℕ) → ((y : List ℕ) → bytes_eq x y ≡ false → g y ≡ f y) → (xs : List (List ℕ))
      → AllByRecursion (λ y. bytes_eq x y ≡ false) xs → map g xs ≡ map f xs
  unchanged-after x others [] none = refl
  unchanged-after x others (y ∷ xs) none = let here = others y none.0 in let rest = unchanged-after x others xs none.1 in λ i. here i ∷ rest i

  differs-at : (x y : List ℕ) (xs : List (List ℕ)) (n : ℕ) → AllByRecursion (λ z. bytes_eq x z ≡ false) xs → slice_get xs n ≡ Some y → bytes_eq x y ≡ false
  differs-at x y [] n none e = absurd cc
  differs-at x y (z ∷ xs) zero none e = let same : z ≡ y = cc in ap (bytes_eq x) (sym same) ∙ none.0
  differs-at x y (z ∷ xs) (suc n) none e = differs-at x y xs n none.1 e

  -- one of the names changes what is made of it
  pub changed : (name : List ℕ) → ((y : List ℕ) → bytes_eq name y ≡ false → g y ≡ f y)
      → (xs : List (List ℕ)) (n : ℕ) → IsDistinct bytes_eq xs → slice_get xs n ≡ Some name → map g xs ≡ slice_set (map f xs) n (g name)
  changed name others [] n once e = absurd cc
  changed name others (x ∷ xs) zero once e =
      let same : x ≡ name = cc in
      let rest = unchanged-after x (λ y h. others y (ap (λ z. bytes_eq z y) (sym same) ∙ h)) xs (IsDistinct-head bytes_eq x xs once) in
      λ i. g (same i) ∷ rest i
  changed name others (x ∷ xs) (suc n) once e =
      let here = others x (apart x name (differs-at x name xs n (IsDistinct-head bytes_eq x xs once) e)) in
      let rest = changed name others xs n (IsDistinct-tail bytes_eq x xs once) e in
      λ i. here i ∷ rest i
