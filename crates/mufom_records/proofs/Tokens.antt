-- One step of reading an expression.
use Rattle.std.proofs.Common.{◌≡◌, ◌==◌, ℕ, zero, suc, ◌-◌, ◌<◌, true, false, List, drop, Ok, Err, refl, arith}
use Rattle.mufom_expr.specs.TokenAt.{begins_token, token_at}
use Rattle.mufom_records.specs.declared.stop.Stop.{Stop}
use Rattle.mufom_records.specs.Reading.{byte_at, expression_end, terms_with, tokens_from}

-- if a token is cut off or has an error, that is the result
pub tokens-stop : (room terms at : ℕ) (input : List ℕ) (b p : ℕ) (stop : Stop) → byte_at input at ≡ Ok (b, p) → begins_token b ≡ true
    → terms_with room terms at (token_at (drop at input)) ≡ Err stop → tokens_from room terms input at ≡ Err stop
tokens-stop zero terms at input b p stop first begins e = rw (first, begins, e) refl
tokens-stop (suc room) terms at input b p stop first begins e = rw (first, begins, e) refl

pub tokens-got : (room terms at : ℕ) (input : List ℕ) (b p n after : ℕ) → 0 < room → byte_at input at ≡ Ok (b, p) → begins_token b ≡ true
    → terms_with room terms at (token_at (drop at input)) ≡ Ok (n, after) → tokens_from room terms input at ≡ tokens_from (room - 1) n input after
tokens-got zero terms at input b p n after some first begins e = absurd (omega (arith, some))
tokens-got (suc room) terms at input b p n after some first begins e = let k : suc room - 1 ≡ room = omega arith in rw (k, first, begins, e) refl

-- the expression ends before a byte that cannot begin a token
pub tokens-last : (room terms at : ℕ) (input : List ℕ) (b p : ℕ) → byte_at input at ≡ Ok (b, p) → begins_token b ≡ false
    → tokens_from room terms input at ≡ expression_end (room == 255) terms at
tokens-last zero terms at input b p first ends = rw (first, ends) refl
tokens-last (suc room) terms at input b p first ends = rw (first, ends) refl

-- if there is no byte, the result is that of reading the byte
pub tokens-byte : (room terms at : ℕ) (input : List ℕ) (stop : Stop) → byte_at input at ≡ Err stop → tokens_from room terms input at ≡ Err stop
tokens-byte zero terms at input stop first = rw first refl
tokens-byte (suc room) terms at input stop first = rw first refl
