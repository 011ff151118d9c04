-- A number that is cut off at a bound goes on as the number itself, up to that bound.
use Rattle.std.proofs.Common.{◌≡◌, ℕ, ◌≤◌, ◌<◌, Bool, true, false, nat_le, List, refl, ap, ◌∙◌, arith, rules}
use Rattle.std.specs.Prelude.{min}
use Rattle.std.specs.Int.Digits.{number_from_digits_after}
use Rattle.std.proofs.lemmas.Int.Digits.{number_after_ge}

pub capped-after : (bound n : ℕ) (digits : List ℕ) → min bound (number_from_digits_after 10 (min n bound) digits)
    ≡ min bound (number_from_digits_after 10 n digits)
capped-after bound n digits = by_case (nat_le n bound) refl where
  by_case : (b : Bool) → nat_le n bound ≡ b → min bound (number_from_digits_after 10 (min n bound) digits) ≡ min bound (number_from_digits_after 10 n digits)
  by_case true h =
      let within : n ≤ bound = search rules in
      let same : min n bound ≡ n = grind arith in
      ap (λ m. min bound (number_from_digits_after 10 m digits)) same
  by_case false h =
      let past : bound < n = search rules in
      let same : min n bound ≡ bound = grind arith in
      let positive : 0 < 10 = omega arith in
      let first = number_after_ge 10 bound digits positive in
      let second = number_after_ge 10 n digits positive in
      ap (λ m. min bound (number_from_digits_after 10 m digits)) same ∙ grind (arith, first, second, past)
