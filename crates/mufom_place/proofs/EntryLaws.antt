-- Among lists in which no name occurs twice, one entry at most matches a name.
use Rattle.std.proofs.Common.{◌≡◌, ◌≢◌, ℕ, ◌<◌, ◌≤◌, List, [], ◌∷◌, ◌++◌, length, get_or, Option, Some, None, Bool, true, false, not, ◌&&◌, ◌||◌}
use Rattle.std.proofs.Common.{cond, refl, ap, ◌∙◌, subst, arith, rules}
use Rattle.std.specs.Prelude.{position, nat_lt, codes}
use Rattle.std.specs.List.{AllByRecursion, IsDistinct, list_any, position_or_len}
use Rattle.std.specs.Str.{bytes_eq}
use Rattle.std.proofs.lemmas.Cmp.{nat_list_eq_equiv}
use Rattle.std.proofs.lemmas.List.Folds.{list_any_at, list_any_none}
use Rattle.std.proofs.lemmas.List.Quantifiers.{position-Some}
use Rattle.std.proofs.lemmas.List.Sums.{prefix_len_passes}
use Rattle.std.proofs.lemmas.Map.Keys.{apart_from_distinct}
use Rattle.std.proofs.lemmas.Slice.Eq.{bytes_eq-Decides}
use Rattle.mufom_plan.specs.Names.{AreDistinctNames, has_name}
use Rattle.mufom_place.specs.Bases.{stands_for, is_listed, last_of}
use Rattle.mufom_place.specs.Entries.{entry_for}

prefix_all : {A : Type 0} (P : A → Type 0) (xs ys : List A) → AllByRecursion P (xs ++ ys) → AllByRecursion P xs
prefix_all P [] ys h = tt
prefix_all P (x ∷ xs) ys h = (h.0, prefix_all P xs ys h.1)

middle_of : {A : Type 0} (P : A → Type 0) (xs : List A) (y : A) (ys : List A) → AllByRecursion P (xs ++ y ∷ ys) → P y
middle_of P [] y ys h = h.0
middle_of P (x ∷ xs) y ys h = middle_of P xs y ys h.1

-- the prefix of distinct names
pub distinct-prefix : (xs ys : List (List ℕ)) → AreDistinctNames (xs ++ ys) → AreDistinctNames xs
unfolding IsDistinct
distinct-prefix [] ys h = tt
distinct-prefix (x ∷ xs) ys h = (prefix_all (λ y. bytes_eq x y ≡ false) xs ys h.0, distinct-prefix xs ys h.1)

-- a name after others is none of them
pub distinct-next : (xs : List (List ℕ)) (y : List ℕ) (ys : List (List ℕ)) → AreDistinctNames (xs ++ y ∷ ys) → has_name xs y ≡ false
unfolding IsDistinct
distinct-next [] y ys h = refl
distinct-next (x ∷ xs) y ys h =
    let here : bytes_eq y x ≡ false = nat_list_eq_equiv.symm y x ∙ middle_of (λ z. bytes_eq x z ≡ false) xs y ys h.0 in
    let later = distinct-next xs y ys h.1 in λ i. here i || later i

not_true : (b : Bool) → not b ≡ true → b ≡ false
not_true true e = absurd cc
not_true false e = refl

less_false : (m n : ℕ) → nat_lt m n ≡ false → n ≤ m
less_false m n e = search rules

-- if no position is found, no element passes
pub no_position : (p : List ℕ → Bool) (xs : List (List ℕ)) → position p xs ≡ None → list_any p xs ≡ false
no_position p xs e = by_test (nat_lt (position_or_len p xs) (length xs)) refl e where
  by_test : (b : Bool) → nat_lt (position_or_len p xs) (length xs) ≡ b → cond b (Some (position_or_len p xs)) None ≡ None → list_any p xs ≡ false
  by_test true h e = absurd cc
  by_test false h e =
      let far = less_false (position_or_len p xs) (length xs) h in
      list_any_none p xs (λ k d less. let before : k < position_or_len p xs = omega (arith, less, far) in
      not_true (p (get_or xs k d)) (prefix_len_passes (λ x. not (p x)) xs k d before))

-- no element passes if the list has none that does
pub none_at : (p : List ℕ → Bool) (xs : List (List ℕ)) (k : ℕ) (d : List ℕ) → k < length xs → list_any p xs ≡ false → p (get_or xs k d) ≡ false
none_at p xs k d less none = by_case (p (get_or xs k d)) refl where
  by_case : (b : Bool) → p (get_or xs k d) ≡ b → b ≡ false
  by_case true e = let found = list_any_at p xs k d less e in cc
  by_case false e = refl

and_false : (b : Bool) → (b && false) ≡ false
and_false true = refl
and_false false = refl

or_true : (b : Bool) → (b || true) ≡ true
or_true true = refl
or_true false = refl

-- names at two different positions differ
apart : (listed : List (List ℕ)) (j k : ℕ) → AreDistinctNames listed → j < length listed → k < length listed → k ≢ j
    → bytes_eq (get_or listed k []) (get_or listed j []) ≡ false
apart listed j k h j_in k_in differ = by_order (nat_lt k j) refl where
  by_order : (b : Bool) → nat_lt k j ≡ b → bytes_eq (get_or listed k []) (get_or listed j []) ≡ false
  by_order true e = let less : k < j = search rules in apart_from_distinct bytes_eq listed k j [] h less j_in
  by_order false e =
      let le = less_false k j e in let less : j < k = omega (arith, le, differ) in
      nat_list_eq_equiv.symm (get_or listed k []) (get_or listed j []) ∙ apart_from_distinct bytes_eq listed j k [] h less k_in

abbrev star : List ℕ
star = codes "*"

-- an entry matches a name, and no other one does
pub record StandsAlone (listed : List (List ℕ)) (name : List ℕ) (e : ℕ) : Type 0 where
  pub within : e < length listed
  pub stands : stands_for listed (get_or listed e []) name ≡ true
  pub alone : (k : ℕ) → k < length listed → k ≢ e → stands_for listed (get_or listed k []) name ≡ false

pub entry_for-some : (listed : List (List ℕ)) (name : List ℕ) (e : ℕ) → AreDistinctNames listed → entry_for listed name ≡ Some e → StandsAlone listed name e
entry_for-some listed name e h found = by_name (position (bytes_eq name) listed) refl found where
  of_name : (at : ℕ) → position (bytes_eq name) listed ≡ Some at → StandsAlone listed name at
  of_name at is =
      let there = position-Some (bytes_eq name) listed at [] is in
      let same : bytes_eq (get_or listed at []) name ≡ true = nat_list_eq_equiv.symm (get_or listed at []) name ∙ there.1 in
      let equal : name ≡ get_or listed at [] = (bytes_eq-Decides name (get_or listed at [])).0 there.1 in
      let known : has_name listed name ≡ true = list_any_at (bytes_eq name) listed at [] there.0 there.1 in
      record {
        within = there.0;
        stands = ap (λ b. b || (bytes_eq (get_or listed at []) star && not (has_name listed name))) same;
        alone = λ k less differ.
            let first : bytes_eq (get_or listed k []) name ≡ false = ap (bytes_eq (get_or listed k [])) equal ∙ apart listed at k h there.0 less differ in
            (λ i. first i || (bytes_eq (get_or listed k []) star && not (known i))) ∙ and_false (bytes_eq (get_or listed k []) star);
      }

  of_star : (at : ℕ) → list_any (bytes_eq name) listed ≡ false → position (bytes_eq star) listed ≡ Some at → StandsAlone listed name at
  of_star at unknown is =
      let there = position-Some (bytes_eq star) listed at [] is in
      let same : bytes_eq (get_or listed at []) star ≡ true = nat_list_eq_equiv.symm (get_or listed at []) star ∙ there.1 in
      let equal : star ≡ get_or listed at [] = (bytes_eq-Decides star (get_or listed at [])).0 there.1 in
      record {
        within = there.0;
        stands = (λ i. bytes_eq (get_or listed at []) name || (same i && not (unknown i))) ∙ or_true (bytes_eq (get_or listed at []) name);
        alone = λ k less differ.
            let first : bytes_eq (get_or listed k []) name ≡ false = nat_list_eq_equiv.symm (get_or listed k []) name
            ∙ none_at (bytes_eq name) listed k [] less unknown in
            let second : bytes_eq (get_or listed k []) star ≡ false = ap (bytes_eq (get_or listed k [])) equal ∙ apart listed at k h there.0 less differ in
            λ i. first i || (second i && not (unknown i));
      }

  by_name : (named : Option ℕ) → position (bytes_eq name) listed ≡ named → last_of (position (bytes_eq star) listed) named ≡ Some e → StandsAlone listed name e
  by_name (Some at) is found = let same : at ≡ e = cc in subst (StandsAlone listed name) same (of_name at is)
  by_name None is found = of_star e (no_position (bytes_eq name) listed is) found

-- no entry matches a name that has none
pub entry_for-none : (listed : List (List ℕ)) (name : List ℕ) → entry_for listed name ≡ None → is_listed listed name ≡ false
entry_for-none listed name missing = by_name (position (bytes_eq name) listed) refl missing where
  at : (k : ℕ) (d : List ℕ) → k < length listed → list_any (bytes_eq name) listed ≡ false → list_any (bytes_eq star) listed ≡ false
      → stands_for listed (get_or listed k d) name ≡ false
  at k d less unknown no_star =
      let first : bytes_eq (get_or listed k d) name ≡ false = nat_list_eq_equiv.symm (get_or listed k d) name
      ∙ none_at (bytes_eq name) listed k d less unknown in
      let second : bytes_eq (get_or listed k d) star ≡ false = nat_list_eq_equiv.symm (get_or listed k d) star
      ∙ none_at (bytes_eq star) listed k d less no_star in
      λ i. first i || (second i && not (unknown i))

  by_name : (named : Option ℕ) → position (bytes_eq name) listed ≡ named → last_of (position (bytes_eq star) listed) named ≡ None
      → is_listed listed name ≡ false
  by_name (Some k) is missing = absurd cc
  by_name None is missing =
      let unknown = no_position (bytes_eq name) listed is in let no_star = no_position (bytes_eq star) listed missing in
      list_any_none (λ entry. stands_for listed entry name) listed (λ k d less. at k d less unknown no_star)

pub is_listed-some : (listed : List (List ℕ)) (name : List ℕ) (e : ℕ) → StandsAlone listed name e → is_listed listed name ≡ true
is_listed-some listed name e h = list_any_at (λ entry. stands_for listed entry name) listed e [] h.within h.stands
