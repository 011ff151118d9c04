-- The positions of the numbers of a row, `range_with_len first count`.
use Rattle.std.proofs.Common.{◌≡◌, ◌+◌, ◌-◌, ◌<◌, ◌≤◌, ℕ, zero, suc, [], ◌∷◌, ◌++◌, Bool, true, false, not, cond, ◌||◌, nat_eq, position, Some, refl}
use Rattle.std.proofs.Common.{ap, ◌∙◌, arith}
use Rattle.std.specs.List.{list_any, position_or_len, range_with_len}
use Rattle.std.proofs.lemmas.Bool.{eqb-true, eqb-false}
use Rattle.mufom_sections.proofs.PlacesLemmas.{position-there}

-- a row with one more number
row-last : (first count : ℕ) → range_with_len first (suc count) ≡ range_with_len first count ++ (first + count) ∷ []
row-last first zero = let e : first ≡ first + 0 = omega arith in ap (λ k. k ∷ []) e
row-last first (suc count) =
    let e : first + 1 + count ≡ first + suc count = omega arith in
    ap (λ rest. first ∷ rest) (row-last (first + 1) count ∙ ap (λ k. range_with_len (first + 1) count ++ k ∷ []) e)

pub row-push : (first count : ℕ) → range_with_len first (count + 1) ≡ range_with_len first count ++ (first + count) ∷ []
row-push first count = let e : count + 1 ≡ suc count = omega arith in ap (range_with_len first) e ∙ row-last first count

-- a number below a row
pub row-below : (k first count : ℕ) → k < first → list_any (nat_eq k) (range_with_len first count) ≡ false
row-below k first zero below = refl
row-below k first (suc count) below = by_case (nat_eq k first) refl (row-below k (first + 1) count (omega arith)) where
  by_case : (b : Bool) → nat_eq k first ≡ b → list_any (nat_eq k) (range_with_len (first + 1) count) ≡ false
      → (b || list_any (nat_eq k) (range_with_len (first + 1) count)) ≡ false
  by_case true e rest = absurd (omega (arith, eqb-true k first e))
  by_case false e rest = rest

-- a number above a row
pub row-above : (k first count : ℕ) → first + count ≤ k → list_any (nat_eq k) (range_with_len first count) ≡ false
row-above k first zero above = refl
row-above k first (suc count) above = by_case (nat_eq k first) refl (row-above k (first + 1) count (omega arith)) where
  by_case : (b : Bool) → nat_eq k first ≡ b → list_any (nat_eq k) (range_with_len (first + 1) count) ≡ false
      → (b || list_any (nat_eq k) (range_with_len (first + 1) count)) ≡ false
  by_case true e rest = absurd (omega (arith, eqb-true k first e))
  by_case false e rest = rest

-- a number of a row
pub row-has : (k first count : ℕ) → first ≤ k → k < first + count → list_any (nat_eq k) (range_with_len first count) ≡ true
row-has k first zero low high = absurd (omega arith)
row-has k first (suc count) low high = by_case (nat_eq k first) refl (row-has k (first + 1) count) where
  by_case : (b : Bool) → nat_eq k first ≡ b
      → (first + 1 ≤ k → k < first + 1 + count → list_any (nat_eq k) (range_with_len (first + 1) count) ≡ true)
      → (b || list_any (nat_eq k) (range_with_len (first + 1) count)) ≡ true
  by_case true e rest = refl
  by_case false e rest =
      let other : k ≡ first → ⊥ = eqb-false k first e in
      rest (omega (arith, other)) (omega arith)

-- its place
row-place : (k first count : ℕ) → first ≤ k → k < first + count → position_or_len (nat_eq k) (range_with_len first count) ≡ k - first
row-place k first zero low high = absurd (omega arith)
row-place k first (suc count) low high = by_case (nat_eq k first) refl (row-place k (first + 1) count) where
  by_case : (b : Bool) → nat_eq k first ≡ b
      → (first + 1 ≤ k → k < first + 1 + count → position_or_len (nat_eq k) (range_with_len (first + 1) count) ≡ k - (first + 1))
      → cond (not b) (1 + position_or_len (nat_eq k) (range_with_len (first + 1) count)) 0 ≡ k - first
  by_case true e rest = omega (arith, eqb-true k first e)
  by_case false e rest =
      let other : k ≡ first → ⊥ = eqb-false k first e in
      let above : first + 1 ≤ k = omega (arith, other) in
      omega (arith, rest above (omega arith))

pub row-position : (k first count : ℕ) → first ≤ k → k < first + count → position (nat_eq k) (range_with_len first count) ≡ Some (k - first)
row-position k first count low high =
    position-there (nat_eq k) (range_with_len first count) (row-has k first count low high) ∙ ap Some (row-place k first count low high)
