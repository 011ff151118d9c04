-- Indexes of names against the list of the names, and the commons that references ask for one after another.
use Rattle.std.proofs.Common.{◌≡◌, ℕ, suc, ◌+◌, ◌<◌, ◌≤◌, List, [], ◌∷◌, ◌++◌, length, map, take, get_or, Some, None, is_none, Bool, true, false, not}
use Rattle.std.proofs.Common.{cond, ◌||◌, ◌&&◌, if◌then◌else◌, refl, sym, ap, ◌∙◌, append_assoc, append-nil, length-append, arith}
use Rattle.std.specs.Prelude.{filter, slice_get}
use Rattle.std.specs.Str.{bytes_eq}
use Rattle.std.proofs.lemmas.List.{map-append, length-map, take_more}
use Rattle.std.proofs.lemmas.Grind.{common_steps}
use Rattle.std.proofs.lemmas.List.Folds.{list_any-append}
use Rattle.std.proofs.lemmas.Slice.Eq.{bytes_eq-Decides}
use Rattle.mufom_names.specs.declared.name.Public.{Public}
use Rattle.mufom_names.specs.declared.name.Reference.{Reference}
use Rattle.mufom_names.specs.Names.{names_of}
use Rattle.mufom_names.specs.Index.{Entry, position_of, with_entry, numbered_from}
use Rattle.mufom_names.proofs.PositionLaws.{first_of, given, position_of-push, position_of-with, numbered-push}
use Rattle.mufom_plan.specs.Names.{has_name}
use Rattle.mufom_meaning.specs.Flat.{distinct}
use Rattle.mufom_meaning.proofs.Distinct.{filter-weaker}
use Rattle.mufom_image_values.specs.Names.{place_in, FindsFirst, with_name, asks, with_asked, asked_after}

-- ---- what an index finds

-- an index that finds the first positions of names does so with one name more
finds-push : (es : List Entry) (names : List (List ℕ)) (key : List ℕ) (n : ℕ) → n ≡ length names → FindsFirst es names
    → FindsFirst (with_entry es key n) (names ++ key ∷ [])
finds-push es names key n count known name =
    let place : n ≡ 0 + length names = omega (arith, count) in
    position_of-with es key n name
    ∙ ap (λ r. first_of r (given (bytes_eq name key) n)) (known name)
    ∙ ap (λ k. first_of (place_in names name) (given (bytes_eq name key) k)) place
    ∙ sym (position_of-push (numbered_from 0 names) key (0 + length names) name)
    ∙ ap (λ es. position_of es name) (sym (numbered-push 0 names key))

-- and with the next public of a list
pub finds-more : (es : List Entry) (publics : List Public) (i : ℕ) (public : Public) → i < length publics → get_or publics i public ≡ public
    → FindsFirst es (names_of (take i publics)) → FindsFirst (with_entry es public.name i) (names_of (take (i + 1) publics))
finds-more es publics i public inside is known name =
    let taken : length (take i publics) ≡ i = grind (arith, common_steps, inside) in
    let count = sym (length-map (take i publics) (λ (p : Public). p.name) ∙ taken) in
    let names : names_of (take (i + 1) publics) ≡ names_of (take i publics) ++ public.name ∷ []
    = ap names_of (take_more publics i public inside ∙ ap (λ (p : Public). take i publics ++ p ∷ []) is)
    ∙ map-append (λ p. p.name) (take i publics) (public ∷ []) in
    finds-push es (names_of (take i publics)) public.name i count known name ∙ ap (λ ns. place_in ns name) (sym names)

-- ---- the position of a name

pub place-some : (n : ℕ) (names : List (List ℕ)) (name : List ℕ) (k : ℕ) → position_of (numbered_from n names) name ≡ Some k → (i : ℕ) × (k ≡ n + i)
    × (slice_get names i ≡ Some name)
place-some n [] name k e = absurd cc
place-some n (x ∷ names) name k e = by_case (bytes_eq name x) refl e (place-some (suc n) names name k) where
  by_case : (b : Bool) → bytes_eq name x ≡ b → cond b (Some n) (position_of (numbered_from (suc n) names) name) ≡ Some k
      → (position_of (numbered_from (suc n) names) name ≡ Some k → (i : ℕ) × (k ≡ suc n + i) × (slice_get names i ≡ Some name))
      → (i : ℕ) × (k ≡ n + i) × (slice_get (x ∷ names) i ≡ Some name)
  by_case true f e later =
      let same : name ≡ x = (bytes_eq-Decides name x).0 f in
      let first : n ≡ k = cc in
      (0, omega (arith, first), ap Some (sym same))
  by_case false f e later = let there = later e in (suc there.0, omega (arith, there.1), there.2)

pub place-none : (n : ℕ) (names : List (List ℕ)) (name : List ℕ) → position_of (numbered_from n names) name ≡ None → has_name names name ≡ false
place-none n [] name e = refl
place-none n (x ∷ names) name e = by_case (bytes_eq name x) refl e (place-none (suc n) names name) where
  by_case : (b : Bool) → bytes_eq name x ≡ b → cond b (Some n) (position_of (numbered_from (suc n) names) name) ≡ None
      → (position_of (numbered_from (suc n) names) name ≡ None → has_name names name ≡ false) → (b || has_name names name) ≡ false
  by_case true f e later = absurd cc
  by_case false f e later = later e

-- ---- names one after another

-- the index has a name exactly if it is among the names
pub has-place : (n : ℕ) (names : List (List ℕ)) (name : List ℕ) → is_none (position_of (numbered_from n names) name) ≡ not (has_name names name)
has-place n [] name = refl
has-place n (x ∷ names) name = by_case (bytes_eq name x) (has-place (suc n) names name) where
  by_case : (b : Bool) → is_none (position_of (numbered_from (suc n) names) name) ≡ not (has_name names name)
      → is_none (cond b (Some n) (position_of (numbered_from (suc n) names) name)) ≡ not (b || has_name names name)
  by_case true rest = refl
  by_case false rest = rest

-- one key more in an index of numbered names
pub with_entry-numbered : (names : List (List ℕ)) (name : List ℕ) (n : ℕ) → n ≡ length names → with_entry (numbered_from 0 names) name n
    ≡ numbered_from 0 (with_name names name)
with_entry-numbered names name n count =
    let place : n ≡ 0 + length names = omega (arith, count) in
    ap (λ b. if b then numbered_from 0 names ++ (name, n) ∷ [] else numbered_from 0 names) (has-place 0 names name)
    ∙ by_case (has_name names name) (ap (λ k. numbered_from 0 names ++ (name, k) ∷ []) place ∙ sym (numbered-push 0 names name)) where
      by_case : (b : Bool) → numbered_from 0 names ++ (name, n) ∷ [] ≡ numbered_from 0 (names ++ name ∷ [])
          → (if not b then numbered_from 0 names ++ (name, n) ∷ [] else numbered_from 0 names) ≡ numbered_from 0 (if b then names else names ++ name ∷ [])
      by_case true e = refl
      by_case false e = e

-- a name that is there already adds none, and another one adds one
pub counts-old : (names : List (List ℕ)) (name : List ℕ) (n k : ℕ) → n ≡ length names → position_of (numbered_from 0 names) name ≡ Some k
    → n ≡ length (with_name names name)
counts-old names name n k count e = by_case (has_name names name) (sym (has-place 0 names name) ∙ ap is_none e) where
  by_case : (b : Bool) → not b ≡ false → n ≡ length (if b then names else names ++ name ∷ [])
  by_case true f = count
  by_case false f = absurd cc

pub counts-new : (names : List (List ℕ)) (name : List ℕ) (n : ℕ) → n ≡ length names → position_of (numbered_from 0 names) name ≡ None
    → n + 1 ≡ length (with_name names name)
counts-new names name n count e = by_case (has_name names name) (sym (has-place 0 names name) ∙ ap is_none e) where
  by_case : (b : Bool) → not b ≡ true → n + 1 ≡ length (if b then names else names ++ name ∷ [])
  by_case true f = absurd cc
  by_case false f = omega (arith, count, length-append names (name ∷ []))

-- names one after another, each left out if it is there already
abbrev pub names_after : List (List ℕ) → List (List ℕ) → List (List ℕ)
names_after names [] = names
names_after names (x ∷ xs) = names_after (with_name names x) xs

-- the name is not among these
abbrev new : List (List ℕ) → List ℕ → Bool
new names name = not (has_name names name)

new-push : (names : List (List ℕ)) (x y : List ℕ) → new (names ++ x ∷ []) y ≡ (new names y && not (bytes_eq x y))
new-push names x y = ap not (list_any-append (bytes_eq y) names (x ∷ [])) ∙ by_case (has_name names y) (bytes_eq y x) (bytes_eq x y) refl refl where
  by_case : (b c d : Bool) → bytes_eq y x ≡ c → bytes_eq x y ≡ d → not (b || (c || false)) ≡ (not b && not d)
  by_case true c d f g = refl
  by_case false true true f g = refl
  by_case false false false f g = refl
  by_case false true false f g =
      let same : y ≡ x = (bytes_eq-Decides y x).0 f in
      absurd (let holds : bytes_eq x y ≡ true = (bytes_eq-Decides x y).1 (sym same) in cc)
  by_case false false true f g =
      let same : x ≡ y = (bytes_eq-Decides x y).0 g in
      absurd (let holds : bytes_eq y x ≡ true = (bytes_eq-Decides y x).1 (sym same) in cc)

-- a filter of a filter is one of both tests
pub filter-both : {A : Type 0} (p q : A → Bool) (xs : List A) → filter p (filter q xs) ≡ filter (λ x. q x && p x) xs
filter-both p q [] = refl
filter-both {A} p q (x ∷ xs) = by_case (q x) (p x) refl (filter-both p q xs) where
  by_case : (b c : Bool) → p x ≡ c → filter p (filter q xs) ≡ filter (λ x. q x && p x) xs
      → filter p (cond b (x ∷ filter q xs) (filter q xs)) ≡ cond (b && c) (x ∷ filter (λ x. q x && p x) xs) (filter (λ x. q x && p x) xs)
  by_case true true e rest = ap (λ d. cond d (x ∷ filter p (filter q xs)) (filter p (filter q xs))) e ∙ ap (λ more. x ∷ more) rest
  by_case true false e rest = ap (λ d. cond d (x ∷ filter p (filter q xs)) (filter p (filter q xs))) e ∙ rest
  by_case false c e rest = rest

pub filter-same : {A : Type 0} (p q : A → Bool) → ((x : A) → p x ≡ q x) → (xs : List A) → filter p xs ≡ filter q xs
filter-same p q same [] = refl
filter-same p q same (x ∷ xs) = let here = same x in let rest = filter-same p q same xs in λ i. cond (here i) (x ∷ rest i) (rest i)

pub filter-all : {A : Type 0} (xs : List A) → filter (λ x. true) xs ≡ xs
filter-all [] = refl
filter-all (x ∷ xs) = ap (λ rest. x ∷ rest) (filter-all xs)

-- they are the names before and those of the distinct ones that are new
names_after-is : (names xs : List (List ℕ)) → names_after names xs ≡ names ++ filter (new names) (distinct bytes_eq xs)
names_after-is names [] = sym (append-nil names)
names_after-is names (x ∷ xs) = by_case (has_name names x) refl (names_after-is names xs) (names_after-is (names ++ x ∷ []) xs) where
  -- what is new and not x is new, if x is not
  weaker : has_name names x ≡ true → (y : List ℕ) → new names y ≡ true → not (bytes_eq x y) ≡ true
  weaker there y h = by_same (bytes_eq x y) refl where
    by_same : (b : Bool) → bytes_eq x y ≡ b → not b ≡ true
    by_same false f = refl
    by_same true f =
        let same : x ≡ y = (bytes_eq-Decides x y).0 f in
        let also : has_name names y ≡ true = ap (has_name names) (sym same) ∙ there in
        absurd (let none : false ≡ true = ap not (sym also) ∙ h in cc)

  by_case : (b : Bool) → has_name names x ≡ b
      → names_after names xs ≡ names ++ filter (new names) (distinct bytes_eq xs)
      → names_after (names ++ x ∷ []) xs ≡ (names ++ x ∷ []) ++ filter (new (names ++ x ∷ [])) (distinct bytes_eq xs)
      → names_after (if b then names else names ++ x ∷ []) xs
      ≡ names ++ cond (not b) (x ∷ filter (new names) (filter (λ y. not (bytes_eq x y)) (distinct bytes_eq xs)))
      (filter (new names) (filter (λ y. not (bytes_eq x y)) (distinct bytes_eq xs)))
  by_case true e known more = known ∙ ap (λ rest. names ++ rest) (sym (filter-weaker (new names) (λ y. not (bytes_eq x y)) (weaker e) (distinct bytes_eq xs)))
  by_case false e known more =
      more
      ∙ append_assoc names (x ∷ []) (filter (new (names ++ x ∷ [])) (distinct bytes_eq xs))
      ∙ ap (λ rest. names ++ x ∷ rest) (filter-same (new (names ++ x ∷ [])) (λ y. new names y && not (bytes_eq x y)) (new-push names x) (distinct bytes_eq xs)
      ∙ turned)
    where
      swapped : (b c : Bool) → (b && c) ≡ (c && b)
      swapped true true = refl
      swapped true false = refl
      swapped false true = refl
      swapped false false = refl

      turned : filter (λ y. new names y && not (bytes_eq x y)) (distinct bytes_eq xs)
          ≡ filter (new names) (filter (λ y. not (bytes_eq x y)) (distinct bytes_eq xs))
      turned = filter-same (λ y. new names y && not (bytes_eq x y)) (λ y. not (bytes_eq x y)
          && new names y) (λ y. swapped (new names y) (not (bytes_eq x y))) (distinct bytes_eq xs)
          ∙ sym (filter-both (new names) (λ y. not (bytes_eq x y)) (distinct bytes_eq xs))

pub names_after-distinct : (xs : List (List ℕ)) → names_after [] xs ≡ distinct bytes_eq xs
names_after-distinct xs = names_after-is [] xs ∙ filter-all (distinct bytes_eq xs)

-- what references ask for is those names of references that ask
pub asked-names : (publics : List Entry) (names : List (List ℕ)) (references : List Reference)
    → asked_after publics names references ≡ names_after names (map (λ r. r.name) (filter (asks publics) references))
asked-names publics names [] = refl
asked-names publics names (r ∷ rs) = by_case (asks publics r) (asked-names publics names rs) (asked-names publics (with_name names r.name) rs) where
  by_case : (b : Bool)
      → asked_after publics names rs ≡ names_after names (map (λ r. r.name) (filter (asks publics) rs))
      → asked_after publics (with_name names r.name) rs ≡ names_after (with_name names r.name) (map (λ r. r.name) (filter (asks publics) rs))
      → asked_after publics (if b then with_name names r.name else names) rs
      ≡ names_after names (map (λ r. r.name) (cond b (r ∷ filter (asks publics) rs) (filter (asks publics) rs)))
  by_case true known more = more
  by_case false known more = known

-- one reference more
pub asked-more : (publics : List Entry) (names : List (List ℕ)) (references : List Reference) (r : Reference)
    → asked_after publics names (references ++ r ∷ []) ≡ with_asked publics (asked_after publics names references) r
asked-more publics names [] r = refl
asked-more publics names (q ∷ references) r = asked-more publics (with_asked publics names q) references r

-- the next reference of a list
pub asked-step : (publics : List Entry) (references : List Reference) (k : ℕ) (r : Reference) → k < length references → get_or references k r ≡ r
    → asked_after publics [] (take (k + 1) references) ≡ with_asked publics (asked_after publics [] (take k references)) r
asked-step publics references k r inside is =
    ap (asked_after publics []) (take_more references k r inside ∙ ap (λ (x : Reference). take k references ++ x ∷ []) is)
    ∙ asked-more publics [] (take k references) r

pub with_name-few : (names : List (List ℕ)) (name : List ℕ) → length (with_name names name) ≤ length names + 1
with_name-few names name = by_case (has_name names name) where
  by_case : (b : Bool) → length (if b then names else names ++ name ∷ []) ≤ length names + 1
  by_case true = omega arith
  by_case false = omega (arith, length-append names (name ∷ []))
