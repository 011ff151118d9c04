-- What references resolve to, against the names that are needed and the commons of the module.
use Rattle.std.proofs.Common.{◌≡◌, ℕ, List, [], ◌∷◌, map, Option, Some, None, is_none, Bool, true, false, not, cond, ◌&&◌, refl, sym, ap, ◌∙◌, append-nil}
use Rattle.std.specs.Prelude.{filter, find, option_map}
use Rattle.std.specs.Str.{bytes_eq}
use Rattle.std.proofs.lemmas.Slice.Eq.{bytes_eq-Decides}
use Rattle.mufom_names.specs.declared.name.Weak.{Weak}
use Rattle.mufom_names.specs.declared.name.Reference.{Reference}
use Rattle.mufom_names.specs.Names.{names_of}
use Rattle.mufom_names.specs.Index.{Entry, position_of, numbered_from}
use Rattle.mufom_module.specs.declared.module.Parts.{Parts}
use Rattle.mufom_plan.specs.Names.{has_name}
use Rattle.mufom_meaning.specs.Flat.{distinct, is_strong, is_common, common_size, same_common, public_names, flat_references, unresolved_references}
use Rattle.mufom_meaning.specs.Flat.{commons, common_names}
use Rattle.mufom_meaning.specs.LocateAnswer.{first_undefined}
use Rattle.mufom_meaning.proofs.Distinct.{distinct-made, differs}
use Rattle.mufom_meaning.proofs.Members.{In-at, In-distinct, distinct-In, passes-In}
use Rattle.mufom_meaning.proofs.Names.{name_at}
use Rattle.mufom_meaning.proofs.staging.Needs.{same_common-decides}
use Rattle.mufom_image_values.specs.Names.{place_in, FindsFirst, asks, asked_after}
use Rattle.mufom_image_values.specs.Resolutions.{resolution_without, resolution_by, common_list, resolution_of, resolutions_of, is_nothing}
use Rattle.mufom_image_values.proofs.NameLaws.{filter-both, filter-same, filter-all, has-place, asked-names, names_after-distinct}

-- ---- the commons

named-pairs : (rs : List Reference) → map (λ (common : List ℕ × ℕ). common.0) (map (λ r. (r.name, common_size r.weak)) rs) ≡ map (λ r. r.name) rs
named-pairs [] = refl
named-pairs (r ∷ rs) = ap (λ names. r.name ∷ names) (named-pairs rs)

-- distinct pairs have the same distinct names as all pairs
distinct-names : (pairs : List (List ℕ × ℕ)) → distinct bytes_eq (map (λ common. common.0) (distinct same_common pairs))
    ≡ distinct bytes_eq (map (λ common. common.0) pairs)
distinct-names pairs =
    ap (λ (ps : List (List ℕ × ℕ)). distinct bytes_eq (map (λ common. common.0) ps)) (sym (filter-all (distinct same_common pairs)))
    ∙ distinct-made same_common same_common-decides bytes_eq bytes_eq-Decides (λ common. true) (λ common. common.0) pairs
    ∙ ap (λ (ps : List (List ℕ × ℕ)). distinct bytes_eq (map (λ common. common.0) ps)) (filter-all pairs)

and-turned : (b c : Bool) → (b && c) ≡ (c && b)
and-turned true true = refl
and-turned true false = refl
and-turned false true = refl
and-turned false false = refl

-- a reference asks for a common if none of the names of publics is its own
asks-is : (m : Parts) (publics : List Entry) → FindsFirst publics (names_of m.names.publics) → (r : Reference)
    → asks publics r ≡ (not (has_name (public_names (m ∷ [])) r.name) && is_common r)
asks-is m publics finds r =
    and-turned (is_common r) (is_none (position_of publics r.name))
    ∙ ap (λ b. b && is_common r)
    (ap is_none (finds r.name) ∙ has-place 0 (names_of m.names.publics) r.name
    ∙ ap (λ names. not (has_name names r.name)) (sym (append-nil (names_of m.names.publics))))

-- what the references of a module ask for, one after another, are its commons
pub asked-commons : (m : Parts) (publics : List Entry) → FindsFirst publics (names_of m.names.publics) → asked_after publics [] m.names.references
    ≡ common_list m
asked-commons m publics finds =
    let unresolved : Reference → Bool = λ r. not (has_name (public_names (m ∷ [])) r.name) in
    let same : filter (asks publics) m.names.references ≡ filter is_common (filter unresolved (flat_references (m ∷ []))) =
    filter-same (asks publics) (λ r. unresolved r && is_common r) (asks-is m publics finds) m.names.references
    ∙ sym (filter-both is_common unresolved m.names.references)
    ∙ ap (λ (rs : List Reference). filter is_common (filter unresolved rs)) (sym (append-nil m.names.references)) in
    asked-names publics [] m.names.references
    ∙ names_after-distinct (map (λ r. r.name) (filter (asks publics) m.names.references))
    ∙ ap (λ (rs : List Reference). distinct bytes_eq (map (λ r. r.name) rs)) same
    ∙ ap (distinct bytes_eq) (sym (named-pairs (filter is_common (unresolved_references (m ∷ [])))))
    ∙ sym (distinct-names (map (λ r. (r.name, common_size r.weak)) (filter is_common (unresolved_references (m ∷ [])))))

-- ---- the first undefined name

find-weaker : {A : Type 0} (p q : A → Bool) → ((y : A) → p y ≡ true → q y ≡ true) → (xs : List A) → find p (filter q xs) ≡ find p xs
find-weaker p q weaker [] = refl
find-weaker {A} p q weaker (x ∷ xs) = by_case (p x) refl (q x) refl (find-weaker p q weaker xs) where
  kept : (b : Bool) → p x ≡ b → find p (x ∷ filter q xs) ≡ cond b (Some x) (find p (filter q xs))
  kept b e = ap (λ c. cond c (Some x) (find p (filter q xs))) e

  by_case : (b : Bool) → p x ≡ b → (c : Bool) → q x ≡ c → find p (filter q xs) ≡ find p xs
      → find p (cond c (x ∷ filter q xs) (filter q xs)) ≡ cond b (Some x) (find p xs)
  by_case true e true f rest = kept true e
  by_case true e false f rest = absurd (let must : q x ≡ true = weaker x e in cc)
  by_case false e true f rest = kept false e ∙ rest
  by_case false e false f rest = rest

find-distinct : (p : List ℕ → Bool) (xs : List (List ℕ)) → find p (distinct bytes_eq xs) ≡ find p xs
find-distinct p [] = refl
find-distinct p (x ∷ xs) = by_case (p x) refl (find-distinct p xs) where
  by_case : (b : Bool) → p x ≡ b → find p (distinct bytes_eq xs) ≡ find p xs
      → cond b (Some x) (find p (filter (λ y. not (bytes_eq x y)) (distinct bytes_eq xs))) ≡ cond b (Some x) (find p xs)
  by_case true e rest = refl
  by_case false e rest = find-weaker p (λ y. not (bytes_eq x y)) (differs bytes_eq bytes_eq-Decides p x e) (distinct bytes_eq xs) ∙ rest

find-map : {A B : Type 0} (p : B → Bool) (f : A → B) (xs : List A) → find p (map f xs) ≡ option_map f (find (λ x. p (f x)) xs)
find-map p f [] = refl
find-map p f (x ∷ xs) = by_case (p (f x)) (find-map p f xs) where
  by_case : (b : Bool) → find p (map f xs) ≡ option_map f (find (λ x. p (f x)) xs)
      → cond b (Some (f x)) (find p (map f xs)) ≡ option_map f (cond b (Some x) (find (λ x. p (f x)) xs))
  by_case true rest = refl
  by_case false rest = rest

find-filter : {A : Type 0} (p q : A → Bool) (xs : List A) → find p (filter q xs) ≡ find (λ x. q x && p x) xs
find-filter p q [] = refl
find-filter p q (x ∷ xs) = by_case (q x) (find-filter p q xs) where
  by_case : (b : Bool) → find p (filter q xs) ≡ find (λ x. q x && p x) xs
      → find p (cond b (x ∷ filter q xs) (filter q xs)) ≡ cond (b && p x) (Some x) (find (λ x. q x && p x) xs)
  by_case true rest = ap (λ o. cond (p x) (Some x) o) rest
  by_case false rest = rest

find-same : {A : Type 0} (p q : A → Bool) → ((x : A) → p x ≡ q x) → (xs : List A) → find p xs ≡ find q xs
find-same p q same [] = refl
find-same p q same (x ∷ xs) = let here = same x in let rest = find-same p q same xs in λ i. cond (here i) (Some x) (rest i)

-- the reference is strong, and resolves to nothing
abbrev pub is_undefined : Parts → Reference → Bool
is_undefined m r = is_nothing (resolution_of m r) && is_strong r

strong-nothing : (weak : Option Weak) → (is_nothing (resolution_without weak) && is_none weak) ≡ is_none weak
strong-nothing None = refl
strong-nothing (Some weak) = and-turned (is_nothing (resolution_without (Some weak))) false

-- a name is among the distinct names exactly if it is among all
pub distinct-has : (names : List (List ℕ)) (name : List ℕ) → has_name (distinct bytes_eq names) name ≡ has_name names name
distinct-has names name = by_case (has_name (distinct bytes_eq names) name) refl (has_name names name) refl where
  there : has_name names name ≡ true → has_name (distinct bytes_eq names) name ≡ true
  there h =
      let at = name_at names name h in
      passes-In (bytes_eq name) (distinct bytes_eq names) name
      (In-distinct bytes_eq (λ x y. (bytes_eq-Decides x y).0) name names (In-at name names at.0 at.1)) ((bytes_eq-Decides name name).1 refl)

  back : has_name (distinct bytes_eq names) name ≡ true → has_name names name ≡ true
  back h =
      let at = name_at (distinct bytes_eq names) name h in
      passes-In (bytes_eq name) names name (distinct-In bytes_eq name names (In-at name (distinct bytes_eq names) at.0 at.1))
      ((bytes_eq-Decides name name).1 refl)

  by_case : (b : Bool) → has_name (distinct bytes_eq names) name ≡ b → (c : Bool) → has_name names name ≡ c → b ≡ c
  by_case true e c f = let h = back e in sym h ∙ f
  by_case false e true f = let h = there f in sym e ∙ h
  by_case false e false f = refl

-- it is so if neither a public nor a common has its name
undefined-is : (m : Parts) (r : Reference)
    → ((not (has_name (public_names (m ∷ [])) r.name) && is_strong r) && not (has_name (common_names (m ∷ [])) r.name)) ≡ is_undefined m r
undefined-is m r =
    ap (λ names. (not (has_name names r.name) && is_strong r) && not (has_name (common_names (m ∷ [])) r.name)) (append-nil (names_of m.names.publics))
    ∙ ap (λ b. (b && is_strong r) && not (has_name (common_names (m ∷ [])) r.name)) (sym (has-place 0 (names_of m.names.publics) r.name))
    ∙ ap (λ b. (is_none (place_in (names_of m.names.publics) r.name) && is_strong r) && b) (ap not (sym (distinct-has (common_names (m ∷ [])) r.name))
    ∙ sym (has-place 0 (common_list m) r.name))
    ∙ by_place (place_in (names_of m.names.publics) r.name) (place_in (common_list m) r.name) where
      by_place : (o u : Option ℕ) → ((is_none o && is_strong r) && is_none u) ≡ (is_nothing (resolution_by o u r.weak) && is_strong r)
      by_place (Some n) u = refl
      by_place None (Some n) = and-turned (is_strong r) false
      by_place None None = and-turned (is_strong r) true ∙ sym (strong-nothing r.weak)

-- the first name that is needed and that no common has is that of the first such reference
pub first_undefined-is : (m : Parts) → first_undefined (m ∷ []) ≡ option_map (λ r. r.name) (find (is_undefined m) m.names.references)
first_undefined-is m =
    let p : List ℕ → Bool = λ name. not (has_name (common_names (m ∷ [])) name) in
    let unresolved : Reference → Bool = λ r. not (has_name (public_names (m ∷ [])) r.name) in
    find-distinct p (map (λ r. r.name) (filter is_strong (unresolved_references (m ∷ []))))
    ∙ find-map p (λ r. r.name) (filter is_strong (unresolved_references (m ∷ [])))
    ∙ ap (option_map (λ (r : Reference). r.name))
    (find-filter (λ r. p r.name) is_strong (unresolved_references (m ∷ []))
    ∙ find-filter (λ r. is_strong r && p r.name) unresolved (flat_references (m ∷ []))
    ∙ ap (find (λ r. unresolved r && (is_strong r && p r.name))) (append-nil m.names.references)
    ∙ find-same (λ r. unresolved r && (is_strong r && p r.name)) (is_undefined m) (λ r. grouped (unresolved r) (is_strong r) (p r.name)
    ∙ undefined-is m r) m.names.references)
  where
    grouped : (a b c : Bool) → (a && (b && c)) ≡ ((a && b) && c)
    grouped true b c = refl
    grouped false b c = refl

-- what references resolve to by indexes of these names is what they resolve to by the definition
pub resolutions-are : (m : Parts) (publics commons : List Entry) → FindsFirst publics (names_of m.names.publics) → commons
    ≡ numbered_from 0 (asked_after publics [] m.names.references)
    → map (λ r. resolution_by (position_of publics r.name) (position_of commons r.name) r.weak) m.names.references ≡ resolutions_of m
resolutions-are m publics commons finds is = all m.names.references where
  each : (r : Reference) → resolution_by (position_of publics r.name) (position_of commons r.name) r.weak ≡ resolution_of m r
  each r =
      let public = finds r.name in
      let common = ap (λ es. position_of es r.name) (is ∙ ap (numbered_from 0) (asked-commons m publics finds)) in
      λ i. resolution_by (public i) (common i) r.weak

  all : (rs : List Reference) → map (λ r. resolution_by (position_of publics r.name) (position_of commons r.name) r.weak) rs ≡ map (resolution_of m) rs
  all [] = refl
  all (r ∷ rs) = let first = each r in let rest = all rs in λ i. first i ∷ rest i
