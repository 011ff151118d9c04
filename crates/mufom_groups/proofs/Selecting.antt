-- The members that are selected, taken one after another.
use Rattle.std.proofs.Common.{◌≡◌, ℕ, zero, suc, ◌+◌, ◌-◌, ◌≤◌, ◌<◌, List, [], ◌∷◌, ◌++◌, length, take, drop, get_or, Option, Some, None, refl, sym}
use Rattle.std.proofs.Common.{◌∙◌, ap, subst, append-nil, append_assoc, arith}
use Rattle.std.specs.Prelude.{slice_get}
use Rattle.std.specs.List.{AllPairs}
use Rattle.std.specs.List.Sorted.{IsStrictlyIncreasing}
use Rattle.std.proofs.lemmas.List.Kept.{AllPairs-from_increasing}
use Rattle.std.proofs.lemmas.Grind.{flat_map-append}
use Rattle.std.proofs.lemmas.List.{drop-drop}
use Rattle.mufom_module.specs.declared.module.Parts.{Parts}
use Rattle.mufom_meaning.specs.Selection.{IsSelected, member_at, members_at}
use Rattle.mufom_meaning.specs.StagingLaws.{total_weight}
use Rattle.mufom_groups.specs.Groups.{HasChosen, HasSelected, IsNextOf}
use Rattle.mufom_groups.proofs.LinkWalk.{weight-append}

-- positions that rise, none of them before this one
abbrev pub Rise : ℕ → List ℕ → Type 0
Rise n [] = Unit {0}
Rise n (x ∷ xs) = (n ≤ x) × Rise (x + 1) xs

rise-from : (n : ℕ) (x : ℕ) (xs : List ℕ) → AllPairs (λ a b. a < b) (x ∷ xs) → n ≤ x → Rise n (x ∷ xs)
rise-from n x [] pairs least = (least, tt)
rise-from n x (y ∷ xs) pairs least = (
  least,
  rise-from (x + 1) y xs (λ i j d l m. pairs (suc i) (suc j) d (omega (arith, l)) (omega (arith, m))) (let next : x < y =
      pairs 0 1 0 (omega arith) (omega arith) in omega (arith, next)),
)

pub rise-all : (xs : List ℕ) → IsStrictlyIncreasing xs → Rise 0 xs
rise-all [] up = tt
rise-all (x ∷ xs) up = rise-from 0 x xs (AllPairs-from_increasing (x ∷ xs) up) (omega arith)

get-none : (k : ℕ) → ◌≡◌ {A = Option Parts} (slice_get [] k) None
get-none zero = refl
get-none (suc k) = refl

get-at : (p k : ℕ) (xs : List Parts) → slice_get (drop p xs) k ≡ slice_get xs (p + k)
get-at zero k xs = ap (slice_get xs) {x = k} {y = 0 + k} (omega arith)
get-at (suc p) k [] = get-none k ∙ sym (get-none (suc p + k))
get-at (suc p) k (x ∷ xs) = get-at p k xs ∙ ap (slice_get (x ∷ xs)) {x = suc (p + k)} {y = suc p + k} (omega arith)

lighter-by : (k : ℕ) (xs : List Parts) → total_weight (member_at (slice_get xs k)) + total_weight (drop (suc k) xs) ≤ total_weight xs
lighter-by zero [] = omega arith
lighter-by (suc k) [] = omega arith
lighter-by zero (x ∷ xs) = let sum = weight-append (x ∷ []) xs in omega (arith, sum)
lighter-by (suc k) (x ∷ xs) = let more = lighter-by k xs in let sum = weight-append (x ∷ []) xs in omega (arith, more, sum)

lighter : (k : ℕ) (xs : List Parts) → total_weight (member_at (slice_get xs k)) + total_weight (drop (k + 1) xs) ≤ total_weight xs
lighter k xs = subst (λ (n : ℕ). total_weight (member_at (slice_get xs k)) + total_weight (drop n xs) ≤ total_weight xs) {x = suc k} {y =
    k + 1} (omega arith) (lighter-by k xs)

-- The roots, the members selected so far, and what is left of the members.
pub record IsAdding (roots members : List Parts) (chosen : List ℕ) (i : ℕ) (flat rest : List Parts) (passed : ℕ) : Type 0 where
  pub flat_list : flat ≡ roots ++ members_at members (take i chosen)
  pub left : rest ≡ drop passed members
  pub rise : Rise passed (drop i chosen)
  pub light : total_weight flat + total_weight rest ≤ total_weight roots + total_weight members

pub adding-begins : (roots members : List Parts) (chosen : List ℕ) → IsStrictlyIncreasing chosen → IsAdding roots members chosen 0 roots members 0
adding-begins roots members chosen up = record { flat_list = sym (append-nil roots); left = refl; rise = rise-all chosen up; light = omega arith }

module _ (roots members : List Parts) (chosen : List ℕ) (i : ℕ) (flat rest : List Parts) (passed : ℕ) (is : IsAdding roots members chosen i flat rest passed)
    (x : ℕ) (this : drop i chosen ≡ x ∷ drop (i + 1) chosen) (so_far : take (i + 1) chosen ≡ take i chosen ++ x ∷ []) where
  pub past : passed ≤ x
  past = (subst (λ (l : List ℕ). Rise passed l) this is.rise).0

  module _ (found : Option Parts) (left : List Parts) (item : found ≡ slice_get rest (x - passed)) (after : left ≡ drop (x - passed + 1) rest) where
    its-member : found ≡ slice_get members x
    its-member =
        item ∙ ap (λ (l : List Parts). slice_get l (x - passed)) is.left ∙ get-at passed (x - passed) members
        ∙ ap (slice_get members) {x = passed + (x - passed)} {y = x} (let later = past in omega (arith, later))

    its-rest : left ≡ drop (x + 1) members
    its-rest =
        after ∙ ap (drop (x - passed + 1)) is.left ∙ drop-drop (x - passed + 1) passed members
        ∙ ap (λ (k : ℕ). drop k members) {x = passed + (x - passed + 1)} {y = x + 1} (let later = past in omega (arith, later))

    pub adding-more : (new : List Parts) → new ≡ flat ++ member_at found → IsAdding roots members chosen (i + 1) new left (x + 1)
    adding-more new is_new = record {
      flat_list =
          is_new ∙ (λ j. is.flat_list j ++ member_at (its-member j))
          ∙ append_assoc roots (members_at members (take i chosen)) (member_at (slice_get members x))
          ∙ ap (λ (l : List Parts). roots ++ (members_at members (take i chosen) ++ l)) (sym (append-nil (member_at (slice_get members x))))
          ∙ ap (λ (l : List Parts). roots ++ l) (sym (flat_map-append (λ n. member_at (slice_get members n)) (take i chosen) (x ∷ [])))
          ∙ ap (λ (l : List ℕ). roots ++ members_at members l) (sym so_far);
      left = its-rest;
      rise = (subst (λ (l : List ℕ). Rise passed l) this is.rise).1;
      light =
          let own = lighter (x - passed) rest in
          let sum = weight-append flat (member_at found) in
          let same : total_weight new ≡ total_weight (flat ++ member_at found) = ap total_weight is_new in
          let first : total_weight (member_at found) ≡ total_weight (member_at (slice_get rest (x - passed))) =
          ap (λ (o : Option Parts). total_weight (member_at o)) item in
          let last : total_weight left ≡ total_weight (drop (x - passed + 1) rest) = ap total_weight after in
          let light = is.light in
          omega (arith, own, sum, same, first, last, light);
    }

pub adding-ends : (roots members : List Parts) (chosen : List ℕ) (flat rest : List Parts) (passed i : ℕ)
    → IsAdding roots members chosen i flat rest passed → IsSelected roots members chosen
    → take i chosen ≡ chosen → HasSelected roots members flat
adding-ends roots members chosen flat rest passed i is selected all = record {
  chosen = chosen;
  selected = selected;
  flat_list = is.flat_list ∙ ap (λ (l : List ℕ). roots ++ members_at members l) all;
  light = let light = is.light in omega (arith, light);
}

pub adding-chosen : (roots members : List Parts) (chosen : List ℕ) (flat rest : List Parts) (passed i : ℕ)
    → IsAdding roots members chosen i flat rest passed → IsSelected roots members chosen
    → take i chosen ≡ chosen → HasChosen roots members chosen flat
unfolding adding-ends
adding-chosen roots members chosen flat rest passed i is selected all = record {
  has = adding-ends roots members chosen flat rest passed i is selected all;
  same = refl;
}

-- ---- one module after another

next-suc : (n : ℕ) (xs now next : List Parts) (r : Option Parts) → now ≡ drop n xs → IsNextOf now r next → next ≡ drop (suc n) xs
next-suc n xs now next None same (none, is) = is ∙ sym (after-none n xs (sym same ∙ none)) where
  after-none : (n : ℕ) (xs : List Parts) → drop n xs ≡ [] → drop (suc n) xs ≡ []
  after-none zero [] none = refl
  after-none zero (x ∷ xs) none = absurd cc
  after-none (suc n) [] none = refl
  after-none (suc n) (x ∷ xs) none = after-none n xs none
next-suc n xs now next (Some m) same is = after-some n xs (sym is ∙ same) where
  after-some : (n : ℕ) (xs : List Parts) → m ∷ next ≡ drop n xs → next ≡ drop (suc n) xs
  after-some zero [] more = absurd cc
  after-some zero (x ∷ xs) more = cc
  after-some (suc n) [] more = absurd cc
  after-some (suc n) (x ∷ xs) more = after-some n xs more

pub next-drop : (n : ℕ) (xs now next : List Parts) (r : Option Parts) → now ≡ drop n xs → IsNextOf now r next → next ≡ drop (n + 1) xs
next-drop n xs now next r same is = next-suc n xs now next r same is ∙ ap (λ (k : ℕ). drop k xs) {x = suc n} {y = n + 1} (omega arith)

pub next-get : (n : ℕ) (xs now next : List Parts) (r : Option Parts) → now ≡ drop n xs → IsNextOf now r next → r ≡ slice_get xs n
next-get n xs now next None same (none, is) = sym (get-none n xs (sym same ∙ none)) where
  get-none : (n : ℕ) (xs : List Parts) → drop n xs ≡ [] → slice_get xs n ≡ None
  get-none zero [] none = refl
  get-none zero (x ∷ xs) none = absurd cc
  get-none (suc n) [] none = refl
  get-none (suc n) (x ∷ xs) none = get-none n xs none
next-get n xs now next (Some m) same is = get-some n xs (sym is ∙ same) where
  get-some : (n : ℕ) (xs : List Parts) → m ∷ next ≡ drop n xs → Some m ≡ slice_get xs n
  get-some zero [] more = absurd cc
  get-some zero (x ∷ xs) more = let is : x ≡ m = cc in ap (λ z. Some z) (sym is)
  get-some (suc n) [] more = absurd cc
  get-some (suc n) (x ∷ xs) more = get-some n xs more

-- a list of one module
pub only-one : (ms : List Parts) (m : Parts) → length ms ≡ 1 → m ≡ get_or ms 0 m → m ∷ [] ≡ ms
only-one [] m one is = absurd (omega (arith, one))
only-one (x ∷ []) m one is = ap (λ (p : Parts). p ∷ []) is
only-one (x ∷ y ∷ ms) m one is = absurd (omega (arith, one))
