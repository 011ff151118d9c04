-- One step of reading an expression that may end in a size.
use Rattle.std.proofs.Common.{◌≡◌, ℕ, zero, suc, ◌+◌, ◌-◌, ◌<◌, true, false, List, [], ◌∷◌, drop, Ok, refl, ap, ◌∙◌, arith}
use Rattle.mufom_numbers.specs.declared.taken.Taken.TheVariants as taken
use Rattle.mufom_expr.specs.declared.token.Token.{Token}
use Rattle.mufom_expr.specs.TokenAt.{begins_token, token_at}
use Rattle.mufom_records.specs.declared.size.SizeSoFar.{SizeSoFar}
use Rattle.mufom_records.specs.Fields.{closes, is_one_of, closing_brackets}
use Rattle.mufom_records.specs.Reading.{byte_at, first_byte, with_token, begins_first, sizes_from}

first_begins : (bytes : List ℕ) (at b p : ℕ) → first_byte bytes at ≡ Ok (b, p) → begins_first bytes ≡ begins_token b
first_begins [] at b p e = cc
first_begins (c ∷ bytes) at b p e = let same : (c, at + 1) ≡ (b, p) = cc in ap (λ (x : ℕ × ℕ). begins_token x.0) same

pub first-closes : (input : List ℕ) (at b p : ℕ) → byte_at input at ≡ Ok (b, p) → closes (drop at input) ≡ is_one_of closing_brackets b
first-closes input at b p e = by_bytes (drop at input) e where
  by_bytes : (bytes : List ℕ) → first_byte bytes at ≡ Ok (b, p) → closes bytes ≡ is_one_of closing_brackets b
  by_bytes [] e = cc
  by_bytes (c ∷ bytes) e = let same : (c, at + 1) ≡ (b, p) = cc in ap (λ (x : ℕ × ℕ). is_one_of closing_brackets x.0) same

-- nothing more is said before a byte that cannot begin a token
pub sizes-last : (room : ℕ) (s : SizeSoFar) (input : List ℕ) (at b p : ℕ) → byte_at input at ≡ Ok (b, p) → begins_token b ≡ false
    → sizes_from room s input at ≡ s
sizes-last zero s input at b p first ends = refl
sizes-last (suc room) s input at b p first ends = let no : begins_first (drop at input) ≡ false = first_begins (drop at input) at b p first ∙ ends in
    rw no refl

pub sizes-got : (room : ℕ) (s : SizeSoFar) (input : List ℕ) (at b p : ℕ) (token : Token) (used after : ℕ) → 0 < room → byte_at input at ≡ Ok (b, p)
    → begins_token b ≡ true → token_at (drop at input) ≡ taken.Got token used → after ≡ at + used
    → sizes_from room s input at ≡ sizes_from (room - 1) (with_token s token at) input after
sizes-got zero s input at b p token used after some first begins got place = absurd (omega (arith, some))
sizes-got (suc room) s input at b p token used after some first begins got place =
    let k : suc room - 1 ≡ room = omega arith in
    let yes : begins_first (drop at input) ≡ true = first_begins (drop at input) at b p first ∙ begins in
    rw (k, yes, got, place) refl
