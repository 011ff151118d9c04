-- The first reference that resolves to the first common has its name, and the first that passes a test is found one after another.
use Rattle.std.proofs.Common.{◌≡◌, ℕ, zero, suc, ◌<◌, inl, inr, List, [], ◌∷◌, map, get_or, Option, Some, None, is_none, Bool, true, false, not, cond}
use Rattle.std.proofs.Common.{if◌then◌else◌, refl, sym, ap, ◌∙◌, append-nil, arith}
use Rattle.std.specs.Prelude.{filter, find, option_map, slice_get, ◌==◌}
use Rattle.std.specs.Str.{bytes_eq}
use Rattle.std.proofs.lemmas.Option.{slice_get-map, get_or_from_slice_get}
use Rattle.std.proofs.lemmas.Slice.Eq.{bytes_eq-Decides}
use Rattle.mufom_names.specs.declared.name.Weak.{Weak}
use Rattle.mufom_names.specs.declared.name.Reference.{Reference}
use Rattle.mufom_names.specs.Names.{names_of}
use Rattle.mufom_names.specs.Index.{position_of, numbered_from}
use Rattle.mufom_module.specs.declared.module.Parts.{Parts}
use Rattle.mufom_plan.specs.Names.{has_name}
use Rattle.mufom_meaning.specs.Flat.{distinct, is_common, common_size, same_common, public_names, flat_references, unresolved_references, commons, common_names}
use Rattle.mufom_numbers.proofs.Choices.{equal_numbers}
use Rattle.mufom_meaning.proofs.Members.{In, In-at, at-In, map-In, distinct-In, filter-In}
use Rattle.mufom_meaning.proofs.facts.Answers.{find_at, find_none}
use Rattle.mufom_image_values.specs.declared.resolutions.Resolution.{Resolution}
use Rattle.mufom_image_values.specs.declared.resolutions.Resolution.TheVariants as resolutions
use Rattle.mufom_image_values.specs.Names.{place_in}
use Rattle.mufom_image_values.specs.Resolutions.{resolution_by, common_list, resolution_of, resolutions_of, is_first_common}
use Rattle.mufom_image_values.proofs.NameLaws.{has-place, place-some}

-- ---- the first that passes

pub find-never : {A : Type 0} (p : A → Bool) (xs : List A) → ((i : ℕ) (x : A) → slice_get xs i ≡ Some x → p x ≡ false) → find p xs ≡ None
find-never p [] fails = refl
find-never p (x ∷ xs) fails = ap (λ b. cond b (Some x) (find p xs)) (fails 0 x refl) ∙ find-never p xs (λ i y e. fails (suc i) y e)

pub find-first : {A : Type 0} (p : A → Bool) (xs : List A) (i : ℕ) (x : A) → slice_get xs i ≡ Some x → p x ≡ true
    → ((j : ℕ) (y : A) → j < i → slice_get xs j ≡ Some y → p y ≡ false) → find p xs ≡ Some x
find-first p [] i x e passes fails = absurd cc
find-first p (y ∷ xs) zero x e passes fails =
    let same : y ≡ x = cc in
    ap (λ b. cond b (Some y) (find p xs)) (ap p same ∙ passes) ∙ ap Some same
find-first p (y ∷ xs) (suc i) x e passes fails =
    let first : 0 < suc i = omega arith in
    ap (λ b. cond b (Some y) (find p xs)) (fails 0 y first refl) ∙ find-first p xs i x e passes (λ j z less h. fails (suc j) z (omega (arith, less)) h)

-- ---- the first common

-- the first of the distinct elements is the first of all
distinct-head : {A : Type 0} (same : A → A → Bool) (xs : List A) → slice_get (distinct same xs) 0 ≡ slice_get xs 0
distinct-head same [] = refl
distinct-head same (x ∷ xs) = refl

filter-passes : {A : Type 0} (p : A → Bool) (x : A) (xs : List A) → In x (filter p xs) → p x ≡ true
filter-passes p x [] h = absurd h
filter-passes {A} p x (y ∷ ys) h = by_test (p y) refl h (filter-passes p x ys) where
  by_test : (b : Bool) → p y ≡ b → In x (cond b (y ∷ filter p ys) (filter p ys)) → (In x (filter p ys) → p x ≡ true) → p x ≡ true
  by_test true e (inl same) later = sym (ap p same) ∙ e
  by_test true e (inr k) later = later k
  by_test false e k later = later k

-- the first of some names has the first position
first-place : (names : List (List ℕ)) (name : List ℕ) → slice_get names 0 ≡ Some name → place_in names name ≡ Some 0
first-place [] name e = absurd cc
first-place (x ∷ names) name e =
    let same : x ≡ name = cc in
    ap (λ b. if b then Some 0 else position_of (numbered_from 1 names) name) ((bytes_eq-Decides name x).1 (sym same))

-- a reference resolves to the first common if no public and the first common have its name
stands-first : (o u : Option ℕ) (weak : Option Weak) → o ≡ None → u ≡ Some 0 → is_first_common (resolution_by o u weak) ≡ true
stands-first (Some n) u weak e f = absurd cc
stands-first None None weak e f = absurd cc
stands-first None (Some zero) weak e f = refl
stands-first None (Some (suc n)) weak e f = absurd cc

first-stands : (o u : Option ℕ) (weak : Option Weak) → is_first_common (resolution_by o u weak) ≡ true → u ≡ Some 0
first-stands (Some n) u weak e = absurd cc
first-stands None (Some n) weak e = ap Some (equal_numbers n 0 e)
first-stands None None None e = absurd cc
first-stands None None (Some weak) e = by_size (weak.size == 0) e where
  by_size : (b : Bool) → is_first_common (if b then resolutions.Default weak.default else resolutions.Nothing) ≡ true → ◌≡◌ {A = Option ℕ} None (Some 0)
  by_size true e = absurd cc
  by_size false e = absurd cc

module _ (m : Parts) where
  abbrev pub stands : Reference → Bool
  stands r = is_first_common (resolution_of m r)

  -- if there is a common, a reference resolves to it
  asked-for : (name : List ℕ) → slice_get (common_names (m ∷ [])) 0 ≡ Some name → (r : Reference) × In r m.names.references × (stands r ≡ true)
  asked-for name e =
      let pair = map-In (λ (common : List ℕ × ℕ). common.0) name (commons (m ∷ [])) (In-at name (common_names (m ∷ [])) 0 e) in
      let asking = filter is_common (unresolved_references (m ∷ [])) in
      let made = distinct-In same_common pair.0 (map (λ r. (r.name, common_size r.weak)) asking) pair.1 in
      let r = map-In (λ (r : Reference). (r.name, common_size r.weak)) pair.0 asking made in
      let unresolved = filter-In is_common r.0 (unresolved_references (m ∷ [])) r.1 in
      let free = filter-passes (λ (r : Reference). not (has_name (public_names (m ∷ [])) r.name)) r.0 (flat_references (m ∷ [])) unresolved in
      let there = filter-In (λ (r : Reference). not (has_name (public_names (m ∷ [])) r.name)) r.0 (flat_references (m ∷ [])) unresolved in
      let named : r.0.name ≡ name = ap (λ (common : List ℕ × ℕ). common.0) r.2 ∙ pair.2 in
      let own : not (has_name (names_of m.names.publics) r.0.name) ≡ true =
      ap (λ names. not (has_name names r.0.name)) (sym (append-nil (names_of m.names.publics))) ∙ free in
      let none : place_in (names_of m.names.publics) r.0.name ≡ None =
      lacks (place_in (names_of m.names.publics) r.0.name) (has-place 0 (names_of m.names.publics) r.0.name ∙ own) in
      let first : place_in (common_list m) r.0.name ≡ Some 0
      = ap (place_in (common_list m)) named ∙ first-place (common_list m) name (distinct-head bytes_eq (common_names (m ∷ [])) ∙ e) in (
        r.0,
        moved r.0 (append-nil m.names.references) there,
        stands-first (place_in (names_of m.names.publics) r.0.name) (place_in (common_list m) r.0.name) r.0.weak none first,
      )
    where
      lacks : (o : Option ℕ) → is_none o ≡ true → o ≡ None
      lacks None f = refl
      lacks (Some n) f = absurd cc

      moved : (x : Reference) {xs ys : List Reference} → xs ≡ ys → In x xs → In x ys
      moved x f h = rw (← f) h

  -- the name of the first reference that resolves to the first common is that of the common
  pub first_common-is : slice_get (common_names (m ∷ [])) 0 ≡ option_map (λ r. r.name) (find stands m.names.references)
  first_common-is = by_find (find stands m.names.references) refl (slice_get (common_names (m ∷ [])) 0) refl where
    by_find : (o : Option Reference) → find stands m.names.references ≡ o → (u : Option (List ℕ)) → slice_get (common_names (m ∷ [])) 0 ≡ u
        → slice_get (common_names (m ∷ [])) 0 ≡ option_map (λ r. r.name) o
    by_find (Some r) e u f =
        let there = find_at stands m.names.references r e in
        let first = first-stands (place_in (names_of m.names.publics) r.name) (place_in (common_list m) r.name) r.weak there.1 in
        let place = place-some 0 (common_list m) r.name 0 first in
        let zero_place : place.0 ≡ 0 = omega (arith, place.1) in
        sym (distinct-head bytes_eq (common_names (m ∷ []))) ∙ ap (slice_get (common_list m)) (sym zero_place) ∙ place.2
    by_find None e None f = f
    by_find None e (Some name) f =
        let r = asked-for name f in
        let at = at-In r.0 m.names.references r.1 in
        let fails : stands r.0 ≡ false = find_none stands m.names.references e r.0 at.0 at.1 in
        absurd (let passes : stands r.0 ≡ true = r.2 in cc)

-- what a reference resolves to is at its position
pub resolution-at : (m : Parts) (met : List Resolution) (i : ℕ) (d : Resolution) (r : Reference) → met ≡ resolutions_of m → slice_get m.names.references i
    ≡ Some r → get_or met i d ≡ resolution_of m r
resolution-at m met i d r same e =
    get_or_from_slice_get met i (resolution_of m r) d
    (ap (λ (ms : List Resolution). slice_get ms i) same ∙ slice_get-map (resolution_of m) m.names.references i ∙ ap (option_map (resolution_of m)) e)
