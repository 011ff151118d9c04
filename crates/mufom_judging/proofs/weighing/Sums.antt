-- Sums over the records of a part, and over the entries that are gathered from them.
use Rattle.std.proofs.Common.{◌≡◌, ℕ, ◌+◌, ◌*◌, ◌≤◌, Bool, true, false, cond, ◌==◌, ◌||◌, List, [], ◌∷◌, ◌++◌, length, sum_by, slice_get, Option}
use Rattle.std.proofs.Common.{Some, None, refl, ap, subst, ◌∙◌, arith, length-append, eqb-true, filter_map}
use Rattle.std.specs.List.{list_any, cons_option, AllByRecursion}
use Rattle.std.proofs.lemmas.List.Sums.{sum_by-cons}
use Rattle.std.proofs.lemmas.List.Folds.{list_any-append}
use Rattle.mufom_module.specs.SpelledRecords.{SpelledRecord, bytes_of}
use Rattle.mufom_module.specs.Grammar.{AreWhole}
use Rattle.mufom_judging.proofs.weighing.Records.{cost, record_paid}
use Rattle.mufom_records.specs.declared.options.ReadOptions.{ReadOptions}

-- ---- all records of a part

abbrev pub costs : List SpelledRecord → ℕ
costs spelled_records = sum_by (λ (p : SpelledRecord). cost p p.row) spelled_records

pub costs_paid : (options : ReadOptions) (items : Bool) (spelled_records : List SpelledRecord) (after : List ℕ) → AreWhole options items spelled_records after
    → costs spelled_records ≤ 10 * length (bytes_of spelled_records)
costs_paid options items [] after are = omega arith
costs_paid options items (p ∷ spelled_records) after are =
    let own = record_paid options p items _ are.0 in
    let rest = costs_paid options _ spelled_records after are.1 in
    let sum = sum_by-cons (λ (q : SpelledRecord). cost q q.row) p spelled_records in
    let parts = length-append p.bytes (bytes_of spelled_records) in
    omega (arith, own, rest, sum, parts)

-- ---- sums

abbrev pub value_by : {X : Type 0} → (X → ℕ) → Option X → ℕ
value_by f None = 0
value_by f (Some x) = f x

pub sum_by-option : {X : Type 0} (f : X → ℕ) (o : Option X) (xs : List X) → sum_by f (cons_option o xs) ≡ value_by f o + sum_by f xs
sum_by-option f None xs = omega arith
sum_by-option f (Some x) xs = sum_by-cons f x xs

pub sum_by-two : {X : Type 0} (f g : X → ℕ) (xs : List X) → sum_by (λ (x : X). f x + g x) xs ≡ sum_by f xs + sum_by g xs
sum_by-two f g [] = refl
sum_by-two f g (x ∷ xs) =
    let rest = sum_by-two f g xs in
    let all = sum_by-cons (λ x. f x + g x) x xs in
    let one = sum_by-cons f x xs in
    let two = sum_by-cons g x xs in
    omega (arith, rest, all, one, two)

pub sum_by-below : {X : Type 0} (f g : X → ℕ) (xs : List X) → AllByRecursion (λ x. f x ≤ g x) xs → sum_by f xs ≤ sum_by g xs
sum_by-below f g [] are = omega arith
sum_by-below f g (x ∷ xs) are =
    let rest = sum_by-below f g xs are.1 in
    let one = sum_by-cons f x xs in
    let two = sum_by-cons g x xs in
    omega (arith, are.0, rest, one, two)

sum_by-none : {X : Type 0} (xs : List X) → sum_by (λ (x : X). 0) xs ≡ 0
sum_by-none [] = refl
sum_by-none (x ∷ xs) = let all = sum_by-cons (λ x. 0) x xs in let rest = sum_by-none xs in omega (arith, all, rest)

-- the first of the values found is one of them
pub first_below : {X : Type 0} (f : X → ℕ) (xs : List X) → value_by f (slice_get xs 0) ≤ sum_by f xs
first_below f [] = omega arith
first_below f (x ∷ xs) = let all = sum_by-cons f x xs in omega (arith, all)

pub always : {X : Type 0} (P : X → Type 0) → ((x : X) → P x) → (xs : List X) → AllByRecursion P xs
always P f [] = tt
always P f (x ∷ xs) = (f x, always P f xs)

-- ---- entries that are gathered

-- each entry weighs at most what its record costs, and what is stated of its index
pub gathered_below : {X : Type 0} (weight : X → ℕ) (ask : SpelledRecord → Option X) (key : SpelledRecord → Option ℕ) (own : SpelledRecord
    → ℕ) (more : ℕ → ℕ) (spelled_records : List SpelledRecord)
    → AllByRecursion (λ p. value_by weight (ask p) ≤ own p + value_by more (key p)) spelled_records
    → sum_by weight (filter_map ask spelled_records) ≤ sum_by own spelled_records + sum_by more (filter_map key spelled_records)
gathered_below weight ask key own more [] are = omega arith
gathered_below weight ask key own more (p ∷ spelled_records) are =
    let rest = gathered_below weight ask key own more spelled_records are.1 in
    let entries = sum_by-option weight (ask p) (filter_map ask spelled_records) in
    let keys = sum_by-option more (key p) (filter_map key spelled_records) in
    let records = sum_by-cons own p spelled_records in
    omega (arith, are.0, rest, entries, keys, records)

-- ---- indexes that are declared once

-- none of the indexes is in the list before it, which begins with these
abbrev pub NewFrom : List ℕ → List ℕ → Type 0
NewFrom seen [] = Unit {0}
NewFrom seen (i ∷ is) = (list_any (λ j. j == i) seen ≡ false) × NewFrom (seen ++ i ∷ []) is

abbrev pub paid_for : ℕ → Option ℕ → ℕ → ℕ
paid_for i None n = 0
paid_for i (Some j) n = cond (i == j) n 0

seen_once : (seen : List ℕ) (i j : ℕ) → list_any (λ k. k == j) (seen ++ i ∷ []) ≡ (list_any (λ k. k == j) seen || ((i == j) || false))
seen_once seen i j = list_any-append (λ k. k == j) seen (i ∷ [])

or_false : (b : Bool) → (b || false) ≡ b
or_false true = refl
or_false false = refl

or_true : (b : Bool) → (b || true) ≡ true
or_true true = refl
or_true false = refl

at_most_once : (j n : ℕ) (seen is : List ℕ) → NewFrom seen is → sum_by (λ i. cond (i == j) n 0) is + cond (list_any (λ k. k == j) seen) n 0 ≤ n
at_most_once j n seen [] new = below (list_any (λ k. k == j) seen) where
  below : (b : Bool) → 0 + cond b n 0 ≤ n
  below true = omega arith
  below false = omega arith
at_most_once j n seen (i ∷ is) new = by_case (i == j) refl (at_most_once j n (seen ++ i ∷ []) is new.1) where
  by_case : (b : Bool) → (i == j) ≡ b → sum_by (λ i. cond (i == j) n 0) is + cond (list_any (λ k. k == j) (seen ++ i ∷ [])) n 0 ≤ n
      → sum_by (λ i. cond (i == j) n 0) (i ∷ is) + cond (list_any (λ k. k == j) seen) n 0 ≤ n
  by_case true e rest =
      let all = sum_by-cons (λ i. cond (i == j) n 0) i is in
      let own : cond (i == j) n 0 ≡ n = ap (λ (b : Bool). cond b n 0) e in
      let same : i ≡ j = eqb-true i j e in
      let unseen : cond (list_any (λ k. k == j) seen) n 0 ≡ 0 =
      ap (λ (b : Bool). cond b n 0) (subst (λ (m : ℕ). list_any (λ k. k == m) seen ≡ false) same new.0) in
      let now : cond (list_any (λ k. k == j) (seen ++ i ∷ [])) n 0 ≡ n =
      ap (λ (b : Bool). cond b n 0) (seen_once seen i j ∙ ap (λ (b : Bool). list_any (λ k. k == j) seen || (b || false)) e
      ∙ or_true (list_any (λ k. k == j) seen)) in
      omega (arith, all, own, unseen, now, rest)
  by_case false e rest =
      let all = sum_by-cons (λ i. cond (i == j) n 0) i is in
      let own : cond (i == j) n 0 ≡ 0 = ap (λ (b : Bool). cond b n 0) e in
      let now : cond (list_any (λ k. k == j) (seen ++ i ∷ [])) n 0 ≡ cond (list_any (λ k. k == j) seen) n 0 =
      ap (λ (b : Bool). cond b n 0) (seen_once seen i j ∙ ap (λ (b : Bool). list_any (λ k. k == j) seen || (b || false)) e
      ∙ or_false (list_any (λ k. k == j) seen)) in
      omega (arith, all, own, now, rest)

for_each : (is : List ℕ) (o : Option ℕ) (n : ℕ) → NewFrom [] is → sum_by (λ i. paid_for i o n) is ≤ value_by (λ _. n) o
for_each is None n new = let none = sum_by-none is in omega (arith, none)
for_each is (Some j) n new = let once = at_most_once j n [] is new in omega (arith, once)

-- what records state of indexes that are declared once is counted once
pub shares_below : (is : List ℕ) → NewFrom [] is → (ask : SpelledRecord → Option ℕ) (price : SpelledRecord → ℕ) (spelled_records : List SpelledRecord)
    → sum_by (λ i. sum_by (λ (p : SpelledRecord). paid_for i (ask p) (price p)) spelled_records) is ≤ sum_by
    (λ (p : SpelledRecord). value_by (λ _. price p) (ask p)) spelled_records
shares_below is new ask price [] = let none = sum_by-none is in omega (arith, none)
shares_below is new ask price (p ∷ spelled_records) =
    let share : ℕ → SpelledRecord → ℕ = λ i q. paid_for i (ask q) (price q) in
    let rest = shares_below is new ask price spelled_records in
    let own = for_each is (ask p) (price p) new in
    let inner : (i : ℕ) → sum_by (λ q. paid_for i (ask q) (price q)) (p ∷ spelled_records) ≤ paid_for i (ask p) (price p) + sum_by
    (λ q. paid_for i (ask q) (price q)) spelled_records
    = λ i. (let e = sum_by-cons (λ (q : SpelledRecord). paid_for i (ask q) (price q)) p spelled_records in omega (arith, e)) in
    let split = sum_by-below (λ i. sum_by (λ (q : SpelledRecord). paid_for i (ask q) (price q)) (p ∷ spelled_records))
    (λ i. paid_for i (ask p) (price p) + sum_by (λ (q : SpelledRecord). paid_for i (ask q) (price q)) spelled_records) is
    (always (λ i. sum_by (λ q. paid_for i (ask q) (price q)) (p ∷ spelled_records) ≤ paid_for i (ask p) (price p) + sum_by
    (λ q. paid_for i (ask q) (price q)) spelled_records) inner is) in
    let two = sum_by-two (λ i. paid_for i (ask p) (price p)) (λ i. sum_by (λ (q : SpelledRecord). paid_for i (ask q) (price q)) spelled_records) is in
    let sum = sum_by-cons (λ (q : SpelledRecord). value_by (λ _. price q) (ask q)) p spelled_records in
    omega (arith, rest, own, split, two, sum)
