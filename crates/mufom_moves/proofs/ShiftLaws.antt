-- Where extents move an address.
use Rattle.std.proofs.Common.{◌≡◌, ℕ, suc, ◌+◌, ◌-◌, ◌<◌, ◌≤◌, ◌⊎◌, inl, inr, List, [], ◌∷◌, length, get_or, Bool, true, false, ◌&&◌, refl, sym, ◌∙◌, ap}
use Rattle.std.proofs.Common.{arith}
use Rattle.std.specs.Prelude.{nat_le, nat_lt, if◌then◌else◌}
use Rattle.std.specs.List.Sorted.{IsPermutation}
use Rattle.std.proofs.lemmas.List.Sorted.{Contains-permutation}
use Rattle.mufom_numbers.proofs.Choices.{of_lt, is_lt}
use Rattle.mufom_meaning.proofs.Members.{In, In-Contains, Contains-In}
use Rattle.mufom_meaning.proofs.Tests.{of_le, le_of}
use Rattle.mufom_moves.specs.declared.shift.Shift.{Shift}
use Rattle.mufom_moves.specs.Shifts.{HasAddress, has_address, shifted, ShareNoAddress, AreRisingFrom, MoveAlikeFrom}

-- ---- the test

pub has-there : (s : Shift) (a : ℕ) → HasAddress s a → has_address s a ≡ true
has-there s a h = ap (λ b. b && nat_lt a (s.from + s.size)) (of_le s.from a h.0) ∙ is_lt a (s.from + s.size) h.1

pub there-has : (s : Shift) (a : ℕ) → has_address s a ≡ true → HasAddress s a
there-has s a e = by_low (nat_le s.from a) refl e where
  by_low : (b : Bool) → nat_le s.from a ≡ b → (b && nat_lt a (s.from + s.size)) ≡ true → HasAddress s a
  by_low true f g = (le_of s.from a f, of_lt a (s.from + s.size) g)
  by_low false f g = absurd cc

pub has-not : (s : Shift) (a : ℕ) → (HasAddress s a → ⊥) → has_address s a ≡ false
has-not s a none = by_test (has_address s a) refl where
  by_test : (b : Bool) → has_address s a ≡ b → has_address s a ≡ false
  by_test true e = absurd (none (there-has s a e))
  by_test false e = e

-- ---- where an address is moved

-- no extent has it
pub shifted-none : (shifts : List Shift) (a : ℕ) → ((s : Shift) → In s shifts → HasAddress s a → ⊥) → shifted shifts a ≡ a
shifted-none [] a none = refl
shifted-none (s ∷ shifts) a none =
    ap (λ b. if b then s.to + (a - s.from) else shifted shifts a) (has-not s a (none s (inl refl)))
    ∙ shifted-none shifts a (λ t h. none t (inr h))

-- an extent has it, and each other one that has it is equal
pub shifted-at : (s : Shift) (shifts : List Shift) (a : ℕ) → In s shifts → HasAddress s a → ((t : Shift) → In t shifts → HasAddress t a → t ≡ s)
    → shifted shifts a ≡ s.to + (a - s.from)
shifted-at s [] a h has single = absurd h
shifted-at s (t ∷ shifts) a h has single =
    by_test (has_address t a) refl h (λ k. shifted-at s shifts a k has (λ u m. single u (inr m))) where
      by_test : (b : Bool) → has_address t a ≡ b → In s (t ∷ shifts) → (In s shifts → shifted shifts a ≡ s.to + (a - s.from))
          → (if b then t.to + (a - t.from) else shifted shifts a) ≡ s.to + (a - s.from)
      by_test true e h later = ap (λ (u : Shift). u.to + (a - u.from)) (single t (inl refl) (there-has t a e))
      by_test false e (inl same) later = absurd (let clash = ap (λ u. has_address u a) same ∙ has-there s a has in cc)
      by_test false e (inr h) later = later h

-- some extent has it, or none
abbrev Found : List Shift → ℕ → Type 0
Found shifts a = ((s : Shift) × In s shifts × HasAddress s a) ⊎ ((s : Shift) → In s shifts → HasAddress s a → ⊥)

found : (shifts : List Shift) (a : ℕ) → Found shifts a
found [] a = inr (λ s h. absurd h)
found (t ∷ shifts) a = by_test (has_address t a) refl (found shifts a) where
  by_test : (b : Bool) → has_address t a ≡ b → Found shifts a → Found (t ∷ shifts) a
  by_test true e later = inl (t, inl refl, there-has t a e)
  by_test false e (inl h) = inl (h.0, inr h.1, h.2)
  by_test false e (inr none) = inr by_place where
    by_place : (s : Shift) → In s (t ∷ shifts) → HasAddress s a → ⊥
    by_place s (inl same) has = let clash = ap (λ u. has_address u a) same ∙ has-there s a has in absurd cc
    by_place s (inr h) has = none s h has

-- the order of extents that share no address does not matter
pub shifted-permuted : (xs ys : List Shift) → IsPermutation xs ys → IsPermutation ys xs → ShareNoAddress xs → (a : ℕ) → shifted ys a ≡ shifted xs a
shifted-permuted xs ys there back single a = by_case (found xs a) where
  forth : (s : Shift) → In s xs → In s ys
  forth s h = Contains-In s ys (Contains-permutation xs ys s there (In-Contains s xs h))

  from : (s : Shift) → In s ys → In s xs
  from s h = Contains-In s xs (Contains-permutation ys xs s back (In-Contains s ys h))

  by_case : Found xs a → shifted ys a ≡ shifted xs a
  by_case (inl h) =
      let one : (t : Shift) → In t xs → HasAddress t a → t ≡ h.0 = λ t m has. single t h.0 a (In-Contains t xs m) (In-Contains h.0 xs h.1) has h.2 in
      shifted-at h.0 ys a (forth h.0 h.1) h.2 (λ t m has. one t (from t m) has) ∙ sym (shifted-at h.0 xs a h.1 h.2 one)
  by_case (inr none) = shifted-none ys a (λ s m has. none s (from s m) has) ∙ sym (shifted-none xs a none)

-- ---- in order

pub rising_shifts : (low : ℕ) (shifts : List Shift) → ((i j : ℕ) (d : Shift) → i ≤ j → j < length shifts → (get_or shifts i d).from ≤ (get_or shifts j d).from)
    → ((d : Shift) → 0 < length shifts → low ≤ (get_or shifts 0 d).from) → AreRisingFrom low shifts
rising_shifts low [] up first = tt {0}
rising_shifts low (s ∷ shifts) up first = (
  first s (omega arith),
  rising_shifts s.from shifts (λ i j d le less. up (suc i) (suc j) d (omega (arith, le)) (omega (arith, less)))
      (λ d some. up 0 1 d (omega arith) (omega (arith, some))),
)

pub rising-lower : (high low : ℕ) (shifts : List Shift) → low ≤ high → AreRisingFrom high shifts → AreRisingFrom low shifts
rising-lower high low [] less h = tt {0}
rising-lower high low (s ∷ shifts) less h = let at = h.0 in (omega (arith, less, at), h.1)

-- an address below all of them stays
pub shifted-below : (low a : ℕ) (shifts : List Shift) → AreRisingFrom low shifts → a < low → shifted shifts a ≡ a
shifted-below low a [] h less = refl
shifted-below low a (s ∷ shifts) h less =
    let at = h.0 in
    ap (λ b. if b then s.to + (a - s.from) else shifted shifts a) (has-not s a (λ has. let from = has.0 in omega (arith, less, at, from)))
    ∙ shifted-below s.from a shifts h.1 (omega (arith, less, at))

-- without the first extent, if it ends at an address or before it
pub alike_after : (address : ℕ) (s : Shift) (shifts all : List Shift) → s.from + s.size ≤ address → MoveAlikeFrom address (s ∷ shifts) all
    → MoveAlikeFrom address shifts all
alike_after address s shifts all past alike =
    λ a high. sym (ap (λ b. if b then s.to + (a - s.from) else shifted shifts a) (has-not s a (λ has. let less = has.1 in omega (arith, past, high, less))))
    ∙ alike a high
