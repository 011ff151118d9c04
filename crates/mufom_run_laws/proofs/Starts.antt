-- A choice in which nothing is marked yet, and elements at positions inside a list.
use Rattle.std.proofs.Common.{◌≡◌, ℕ, zero, suc, ◌<◌, List, [], ◌∷◌, length, replicate, slice_get, get_or, Some, true, false, refl, sym, true≢false, arith}
use Rattle.std.proofs.lemmas.List.{length-replicate}
use Rattle.std.specs.List.{AllByRecursion}
use Rattle.mufom_select.specs.Choice.{Choice, choice}
use Rattle.mufom_select.specs.Underway.{count, AreOne, IsStart}

-- no entry of so many is marked
abbrev pub nothing : ℕ → Choice
nothing size = choice (replicate size false) []

none-counted : (size : ℕ) → count (replicate size false) ≡ 0
none-counted zero = refl
none-counted (suc size) = none-counted size

pub starts : (size : ℕ) → IsStart size (nothing size)
starts size = record { sized = length-replicate size false; empty = refl; unmarked = none-counted size }

-- anything passes the test that is always true
pub anything : (xs : List ℕ) → AllByRecursion (λ k. true ≡ true) xs
anything [] = tt
anything (x ∷ xs) = (refl, anything xs)

-- there is an element at each position inside a list
pub element : {A : Type 0} (xs : List A) (n : ℕ) → n < length xs → (x : A) × (slice_get xs n ≡ Some x)
element [] n inside = absurd (omega (arith, inside))
element (x ∷ xs) zero inside = (x, refl)
element (x ∷ xs) (suc n) inside = element xs n (omega (arith, inside))

none-marked : (size n : ℕ) → get_or (replicate size false) n false ≡ true → ⊥
none-marked zero n h = true≢false (sym h)
none-marked (suc size) zero h = true≢false (sym h)
none-marked (suc size) (suc n) h = none-marked size n h

-- the marks and the order agree: there are none
pub start-one : (size : ℕ) → AreOne size (nothing size)
start-one size = record {
  sized = length-replicate size false;
  inside = tt;
  marked = tt;
  ordered = λ n h. absurd (none-marked size n h);
  counted = sym (none-counted size);
}
