-- The position of a number in a list of numbers.
use Rattle.std.proofs.Common.{◌≡◌, ◌+◌, ◌<◌, ℕ, List, [], ◌∷◌, ◌++◌, length, Bool, true, false, not, cond, ◌||◌, nat_eq, slice_get, position, Some}
use Rattle.std.proofs.Common.{None, is_some, Contains, refl, sym, ap, ◌∙◌, get_or, true≢false, arith}
use Rattle.std.specs.List.{list_any, position_or_len}
use Rattle.std.proofs.lemmas.Bool.{lt-ltb, le-ltb}
use Rattle.std.proofs.lemmas.List.Folds.{list_any-append}
use Rattle.std.proofs.lemmas.List.Quantifiers.{position-Some}
use Rattle.std.proofs.lemmas.Option.{slice_get-get_or}
use Rattle.std.proofs.lemmas.Map.Views.{Contains-from_any, exact_unsigned_eq}

-- a number that a set's test finds is in the list
pub Contains-from_test : (k : ℕ) (ks : List ℕ) → list_any (nat_eq k) ks ≡ true → Contains ks k
Contains-from_test k ks h = Contains-from_any exact_unsigned_eq k ks h

-- a number of the list is at its position
pub slice_get-position : (k place : ℕ) (ks : List ℕ) → position (nat_eq k) ks ≡ Some place → slice_get ks place ≡ Some k
slice_get-position k place ks h =
    let found = position-Some (nat_eq k) ks place 0 h in
    slice_get-get_or ks place 0 found.0 ∙ ap Some (sym (exact_unsigned_eq k (get_or ks place 0) found.1))

-- if no number passes a test, the place that is found is the end
pub position_or_len-absent : (test : ℕ → Bool) (ks : List ℕ) → list_any test ks ≡ false → position_or_len test ks ≡ length ks
position_or_len-absent test [] none = refl
position_or_len-absent test (k ∷ ks) none = by_case (test k) (position_or_len-absent test ks) none where
  by_case : (b : Bool) → (list_any test ks ≡ false → position_or_len test ks ≡ length ks) → (b || list_any test ks) ≡ false
      → cond (not b) (1 + position_or_len test ks) 0 ≡ length (k ∷ ks)
  by_case true rest h = absurd (true≢false h)
  by_case false rest h = let e = rest h in grind arith

-- if a number passes, the place is before the end
pub position_or_len-within : (test : ℕ → Bool) (ks : List ℕ) → list_any test ks ≡ true → position_or_len test ks < length ks
position_or_len-within test [] some = absurd (true≢false (sym some))
position_or_len-within test (k ∷ ks) some = by_case (test k) (position_or_len-within test ks) some where
  by_case : (b : Bool) → (list_any test ks ≡ true → position_or_len test ks < length ks) → (b || list_any test ks) ≡ true
      → cond (not b) (1 + position_or_len test ks) 0 < length (k ∷ ks)
  by_case true rest h = omega arith
  by_case false rest h = let e = rest h in omega (arith, e)

-- a place in the first of two lists
pub position_or_len-first : (test : ℕ → Bool) (ks more : List ℕ) → list_any test ks ≡ true
    → position_or_len test (ks ++ more) ≡ position_or_len test ks
position_or_len-first test [] more some = absurd (true≢false (sym some))
position_or_len-first test (k ∷ ks) more some = by_case (test k) (position_or_len-first test ks more) some where
  by_case : (b : Bool) → (list_any test ks ≡ true → position_or_len test (ks ++ more) ≡ position_or_len test ks) → (b || list_any test ks) ≡ true
      → cond (not b) (1 + position_or_len test (ks ++ more)) 0 ≡ cond (not b) (1 + position_or_len test ks) 0
  by_case true rest h = refl
  by_case false rest h = ap (λ place. 1 + place) (rest h)

-- a place in the second of two lists
pub position_or_len-second : (test : ℕ → Bool) (ks more : List ℕ) → list_any test ks ≡ false
    → position_or_len test (ks ++ more) ≡ length ks + position_or_len test more
position_or_len-second test [] more none = omega arith
position_or_len-second test (k ∷ ks) more none = by_case (test k) (position_or_len-second test ks more) none where
  by_case : (b : Bool) → (list_any test ks ≡ false → position_or_len test (ks ++ more) ≡ length ks + position_or_len test more)
      → (b || list_any test ks) ≡ false
      → cond (not b) (1 + position_or_len test (ks ++ more)) 0 ≡ length (k ∷ ks) + position_or_len test more
  by_case true rest h = absurd (true≢false h)
  by_case false rest h = let e = rest h in omega (arith, e)

-- the first place of a number that passes, if one passes
pub position-there : (test : ℕ → Bool) (ks : List ℕ) → list_any test ks ≡ true → position test ks ≡ Some (position_or_len test ks)
position-there test ks some =
    ap (λ b. cond b (Some (position_or_len test ks)) None) (lt-ltb (position_or_len test ks) (length ks) (position_or_len-within test ks some))

pub position-absent : (test : ℕ → Bool) (ks : List ℕ) → list_any test ks ≡ false → position test ks ≡ None
position-absent test ks none =
    let end = position_or_len-absent test ks none in
    ap (λ b. cond b (Some (position_or_len test ks)) None) (le-ltb (position_or_len test ks) (length ks) (omega (arith, end)))

-- whether there is a first place
pub position-found : (test : ℕ → Bool) (ks : List ℕ) → is_some (position test ks) ≡ list_any test ks
position-found test ks = by_case (list_any test ks) refl where
  by_case : (b : Bool) → list_any test ks ≡ b → is_some (position test ks) ≡ b
  by_case true some = ap is_some (position-there test ks some)
  by_case false none = ap is_some (position-absent test ks none)

-- the first place in two lists, if the first list has it
pub position-first : (test : ℕ → Bool) (ks more : List ℕ) → list_any test ks ≡ true → position test (ks ++ more) ≡ position test ks
position-first test ks more some =
    position-there test (ks ++ more) (list_any-append test ks more ∙ ap (λ b. b || list_any test more) some)
    ∙ ap Some (position_or_len-first test ks more some)
    ∙ sym (position-there test ks some)

-- the first place in two lists, if only the second list has it
pub position-second : (test : ℕ → Bool) (ks more : List ℕ) (place : ℕ) → list_any test ks ≡ false → position test more ≡ Some place
    → position test (ks ++ more) ≡ Some (length ks + place)
position-second test ks more place none at =
    let some : list_any test more ≡ true = sym (position-found test more) ∙ ap is_some at in
    let places : Some (position_or_len test more) ≡ Some place = sym (position-there test more some) ∙ at in
    let its : position_or_len test more ≡ place = cc in
    position-there test (ks ++ more) (list_any-append test ks more ∙ ap (λ b. b || list_any test more) none ∙ some)
    ∙ ap Some (position_or_len-second test ks more none ∙ ap (λ n. length ks + n) its)

-- two lists in neither of which an element passes
pub neither : (test : ℕ → Bool) (ks more : List ℕ) → list_any test ks ≡ false → list_any test more ≡ false → list_any test (ks ++ more) ≡ false
neither test ks more none none_more = list_any-append test ks more ∙ ap (λ b. b || list_any test more) none ∙ none_more
