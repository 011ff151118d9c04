-- Which sections have loaded bytes, load by load.
use Rattle.std.proofs.Common.{◌≡◌, ℕ, zero, suc, ◌+◌, ◌<◌, List, [], ◌∷◌, ◌++◌, Option, Some, None, Bool, true, false, cond, refl, sym, ap, ◌∙◌, subst}
use Rattle.std.proofs.Common.{◌||◌, ◌&&◌, not, append-nil, zero-add, arith, length, ◌≢◌, get_or, rules, get_or-set_same, get_or-set_other}
use Rattle.std.specs.Prelude.{◌==◌, slice_index_or, nat_le, nat_lt, if◌then◌else◌, ◌≤◌, replicate}
use Rattle.std.proofs.Math.ListN.{set, length-set}
use Rattle.std.proofs.lemmas.List.{length-replicate}
use Rattle.std.specs.List.{list_any}
use Rattle.std.proofs.lemmas.List.Folds.{list_any-append, list_any_at}
use Rattle.mufom_loads.specs.declared.load.Item.{Item}
use Rattle.mufom_loads.specs.declared.load.Load.{Load}
use Rattle.mufom_loads.specs.declared.load.Load.TheVariants.{SetSection, SetPc, One, Repeat}
use Rattle.mufom_loads.specs.Lengths.{byte_count, repeated}
use Rattle.mufom_module.specs.declared.module.Parts.{Parts}
use Rattle.mufom_module.specs.Contents.{current_after}
use Rattle.mufom_module.specs.Defects.{counts_of, has_bad_place}
use Rattle.mufom_numbers.proofs.Choices.{equal_numbers, is_lt, of_not_le}
use Rattle.mufom_place.specs.Filling.{marked}
use Rattle.mufom_meaning.proofs.Tests.{either_false}
use Rattle.mufom_meaning.specs.Flat.{Sited}
use Rattle.mufom_meaning.specs.Steps.{item_steps, steps_of}
use Rattle.mufom_image_bytes.specs.Modules.{home_of}
use Rattle.mufom_planned.specs.Layout.{has_bytes, loads_into}
use Rattle.mufom_locating.specs.Loaded.{have_bytes, puts_bytes, marked_at}

-- the section is the current one
abbrev pub is_current : ℕ → Option ℕ → Bool
is_current n None = false
is_current n (Some section) = section == n

-- some loads put bytes into the section at a position, given the section that is current before them
abbrev pub puts_into : ℕ → Option ℕ → List Load → Bool
puts_into n current [] = false
puts_into n current (load ∷ loads) =
    (is_current n (current_after current load) && puts_bytes load) || puts_into n (current_after current load) loads

-- ---- tests

and_false : (b : Bool) → (b && false) ≡ false
and_false true = refl
and_false false = refl

and_or : (c a b : Bool) → ((c && a) || (c && b)) ≡ (c && (a || b))
and_or true a b = refl
and_or false a b = refl

or_same : (a : Bool) → (a || a) ≡ a
or_same true = refl
or_same false = refl

pub or_apart : (a b c : Bool) → ((a || b) || c) ≡ (a || (b || c))
or_apart true b c = refl
or_apart false b c = refl

pub or_false : (b : Bool) → (b || false) ≡ b
or_false true = refl
or_false false = refl

or_true : (b : Bool) → (b || true) ≡ true
or_true true = refl
or_true false = refl

and_true : (b : Bool) → (b && true) ≡ b
and_true true = refl
and_true false = refl

-- ---- steps

module _ (m : Parts) (n : ℕ) where
  abbrev home : Sited
  home = home_of m

  items-load : (s : ℕ) (items : List Item) → list_any (loads_into n) (item_steps home (Some s) items) ≡ ((s == n) && have_bytes items)
  items-load s [] = sym (and_false (s == n))
  items-load s (item ∷ items) =
      ap (λ k. ((k == n) && not (byte_count item == 0)) || list_any (loads_into n) (item_steps home (Some s) items)) (zero-add s)
      ∙ ap (λ b. ((s == n) && not (byte_count item == 0)) || b) (items-load s items)
      ∙ and_or (s == n) (not (byte_count item == 0)) (have_bytes items)

  items-put : (current : Option ℕ) (items : List Item) → list_any (loads_into n) (item_steps home current items)
      ≡ (is_current n current && have_bytes items)
  items-put None items = refl
  items-put (Some s) items = items-load s items

  repeated-any : {X : Type 0} (p : X → Bool) (count : ℕ) (xs : List X) → list_any p (repeated count xs) ≡ (not (count == 0) && list_any p xs)
  repeated-any p zero xs = refl
  repeated-any p (suc count) xs =
      let some : (suc count == 0) ≡ false = search rules in
      list_any-append p xs (repeated count xs) ∙ ap (λ b. list_any p xs || b) (repeated-any p count xs) ∙ absorbed (not (count == 0)) (list_any p xs)
      ∙ ap (λ b. not b && list_any p xs) (sym some) where
        absorbed : (a b : Bool) → (b || (a && b)) ≡ b
        absorbed true b = or_same b
        absorbed false b = or_false b

  swapped : (a b c : Bool) → (a && (b && c)) ≡ (b && (a && c))
  swapped true b c = refl
  swapped false true c = refl
  swapped false false c = refl

  pub steps-put : (current : Option ℕ) (loads : List Load) → list_any (loads_into n) (steps_of home current loads) ≡ puts_into n current loads
  steps-put current [] = refl
  steps-put current (SetSection s ∷ loads) =
      steps-put (Some s) loads ∙ ap (λ b. b || puts_into n (Some s) loads) (sym (and_false (s == n)))
  steps-put current (SetPc s t ∷ loads) =
      steps-put current loads ∙ ap (λ b. b || puts_into n current loads) (sym (and_false (is_current n current)))
  steps-put current (One item ∷ loads) =
      list_any-append (loads_into n) (item_steps home current (item ∷ [])) (steps_of home current loads)
      ∙ (λ i. (items-put current (item ∷ []) ∙ ap (λ b. is_current n current && b) (or_false (not (byte_count item == 0)))) i
      || steps-put current loads i)
  steps-put current (Repeat count items ∷ loads) =
      list_any-append (loads_into n) (repeated count (item_steps home current items)) (steps_of home current loads)
      ∙ (λ i. (repeated-any (loads_into n) count (item_steps home current items)
      ∙ ap (λ b. not (count == 0) && b) (items-put current items)
      ∙ swapped (not (count == 0)) (is_current n current) (have_bytes items)) i || steps-put current loads i)

  pub bytes-put : has_bytes (m ∷ []) n ≡ puts_into n None m.loads
  bytes-put = ap (list_any (loads_into n)) (append-nil (steps_of home None m.loads)) ∙ steps-put None m.loads

-- ---- marks

-- a current section is one of so many
abbrev pub IsBelow : ℕ → Option ℕ → Type 0
IsBelow count None = Unit {0}
IsBelow count (Some section) = section < count

-- the sections that are marked, or get bytes from the loads that are left, are those that get bytes from all loads
pub record AreMarkedUpTo (loads rest : List Load) (count : ℕ) (current : Option ℕ) (marks : List Bool) : Type 0 where
  pub sized : length marks ≡ count
  pub within : IsBelow count current
  pub same : (n : ℕ) → (slice_index_or marks n false || puts_into n current rest) ≡ puts_into n None loads

set-marked : (marks : List Bool) (s n : ℕ) → s < length marks → get_or (set marks s true) n false ≡ (get_or marks n false || (s == n))
set-marked marks s n within = by_same (s == n) refl where
  by_same : (b : Bool) → (s == n) ≡ b → get_or (set marks s true) n false ≡ (get_or marks n false || b)
  by_same true e =
      let same = equal_numbers s n e in
      subst (λ k. get_or (set marks s true) k false ≡ (get_or marks k false || true)) same
      (get_or-set_same marks s true false within ∙ sym (or_true (get_or marks s false)))
  by_same false e =
      let differ : n ≢ s = λ same. (let t : (s == n) ≡ true = search (rules, same) in cc) in
      get_or-set_other marks s n true false differ ∙ sym (or_false (get_or marks n false))

marked-at : (marks : List Bool) (current : Option ℕ) (n : ℕ) → IsBelow (length marks) current
    → slice_index_or (marked_at current marks) n false ≡ (slice_index_or marks n false || is_current n current)
marked-at marks None n within = sym (or_false (get_or marks n false))
marked-at marks (Some s) n within =
    ap (λ b. get_or (if b then set marks s true else marks) n false) (is_lt s (length marks) within) ∙ set-marked marks s n within

length-marked : (marks : List Bool) (current : Option ℕ) → length (marked_at current marks) ≡ length marks
length-marked marks None = refl
length-marked marks (Some s) = by_case (nat_lt s (length marks)) where
  by_case : (b : Bool) → length (if b then set marks s true else marks) ≡ length marks
  by_case true = length-set marks s true
  by_case false = refl

-- no section is marked at first
pub none-marked : (loads : List Load) (count : ℕ) (marks : List Bool) → marks ≡ replicate count false → AreMarkedUpTo loads loads count None marks
none-marked loads count marks is = record {
  sized = ap length is ∙ length-replicate count false;
  within = tt;
  same = λ n. ap (λ xs. get_or xs n false || puts_into n None loads) is ∙ ap (λ b. b || puts_into n None loads) (at count n);
} where
  at : (count n : ℕ) → get_or (replicate count false) n false ≡ false
  at zero n = refl
  at (suc count) zero = refl
  at (suc count) (suc n) = at count n

-- one more load, which puts no bytes
pub passed : (loads rest : List Load) (load : Load) (count : ℕ) (current : Option ℕ) (marks : List Bool)
    → AreMarkedUpTo loads (load ∷ rest) count current marks → puts_bytes load ≡ false → IsBelow count (current_after current load)
    → AreMarkedUpTo loads rest count (current_after current load) marks
passed loads rest load count current marks h none within = record {
  sized = h.sized;
  within = within;
  same = λ n. sym (ap (λ b. slice_index_or marks n false || (b || puts_into n (current_after current load) rest))
      (ap (λ b. is_current n (current_after current load) && b) none ∙ and_false (is_current n (current_after current load)))) ∙ h.same n;
}

-- one more load, which puts bytes
pub marked-more : (loads rest : List Load) (load : Load) (count : ℕ) (current : Option ℕ) (marks : List Bool)
    → AreMarkedUpTo loads (load ∷ rest) count current marks → puts_bytes load ≡ true → IsBelow count (current_after current load)
    → AreMarkedUpTo loads rest count (current_after current load) (marked_at (current_after current load) marks)
marked-more loads rest load count current marks h some within =
    let after = current_after current load in
    record {
      sized = length-marked marks after ∙ h.sized;
      within = within;
      same = λ n.
          ap (λ b. b || puts_into n after rest) (marked-at marks after n (subst (λ k. IsBelow k after) (sym h.sized) within))
          ∙ or_apart (slice_index_or marks n false) (is_current n after) (puts_into n after rest)
          ∙ sym (ap (λ b. slice_index_or marks n false || (b || puts_into n after rest))
          (ap (λ b. is_current n after && b) some ∙ and_true (is_current n after))) ∙ h.same n;
    }

-- a load of a module names one of its sections
pub names-section : (m : Parts) (load : Load) (current : Option ℕ) → has_bad_place (counts_of m) load ≡ false → IsBelow (length m.sections) current
    → IsBelow (length m.sections) (current_after current load)
names-section m (SetSection s) current e h =
    of_not_le (length m.sections) s (either_false (nat_le (length m.sections) s) false e).0
names-section m (SetPc s t) current e h = h
names-section m (One item) current e h = h
names-section m (Repeat count items) current e h = h

-- one more load
pub next-load : (loads rest : List Load) (load : Load) (count : ℕ) (current : Option ℕ) (marks : List Bool)
    → AreMarkedUpTo loads (load ∷ rest) count current marks → IsBelow count (current_after current load)
    → AreMarkedUpTo loads rest count (current_after current load)
    (if puts_bytes load then marked_at (current_after current load) marks else marks)
next-load loads rest load count current marks h within = by_case (puts_bytes load) refl where
  by_case : (b : Bool) → puts_bytes load ≡ b
      → AreMarkedUpTo loads rest count (current_after current load) (if b then marked_at (current_after current load) marks else marks)
  by_case true e = marked-more loads rest load count current marks h e within
  by_case false e = passed loads rest load count current marks h e within

-- after the last load the marks are those of the sections with loaded bytes
pub all-marked : (m : Parts) (count : ℕ) (current : Option ℕ) (marks : List Bool) → AreMarkedUpTo m.loads [] count current marks → (n : ℕ)
    → slice_index_or marks n false ≡ has_bytes (m ∷ []) n
all-marked m count current marks h n = sym (or_false (slice_index_or marks n false)) ∙ h.same n ∙ sym (bytes-put m n)

-- no load names a section that the module does not have
pub any-not : (m : Parts) (k : ℕ) (load : Load) → k < length m.loads → load ≡ get_or m.loads k load → list_any (has_bad_place (counts_of m)) m.loads ≡ false
    → has_bad_place (counts_of m) load ≡ false
any-not m k load less is e = by_case (has_bad_place (counts_of m) load) refl where
  by_case : (b : Bool) → has_bad_place (counts_of m) load ≡ b → has_bad_place (counts_of m) load ≡ false
  by_case false f = f
  by_case true f =
      let some = list_any_at (has_bad_place (counts_of m)) m.loads k load less (ap (has_bad_place (counts_of m)) (sym is) ∙ f) in absurd cc
