-- The lines of the bytes of a run, byte by byte, and part by part.
use Rattle.std.proofs.Common.{◌≡◌, ◌≢◌, ℕ, zero, suc, ◌+◌, ◌%◌, ◌<◌, List, [], ◌∷◌, ◌++◌, length, get_or, drop, Bool, true, false, refl, sym, ◌∙◌, ap}
use Rattle.std.proofs.Common.{arith, add-one, drop-cons}
use Rattle.std.specs.Prelude.{◌==◌, ◌||◌, if◌then◌else◌}
use Rattle.std.proofs.lemmas.List.{length-drop, append-nil}
use Rattle.mufom_titxt.specs.Written.{byte_digits, byte_lines, without_zeros}

-- a byte, and what is after it
pub line_step : (i : ℕ) (bytes : List ℕ) → i < length bytes
    → byte_lines i (drop i bytes) ≡ (byte_digits (get_or bytes i 0) ++ (if (i + 1 == length bytes) || (i % 16 == 15) then 10 else 32) ∷ [])
    ++ byte_lines (i + 1) (drop (i + 1) bytes)
line_step i bytes less =
    ap (byte_lines i) (drop-cons bytes i 0 less)
    ∙ (by_rest (drop (suc i) bytes) (let e = length-drop (suc i) bytes in omega (arith, e, less))
    ∙ ap (λ k. (byte_digits (get_or bytes i 0) ++ (if (i + 1 == length bytes) || (i % 16 == 15) then 10 else 32) ∷ [])
    ++ byte_lines (i + 1) (drop k bytes)) (sym (add-one i))) where
      by_rest : (rest : List ℕ) → length rest + suc i ≡ length bytes
          → byte_lines i (get_or bytes i 0 ∷ rest)
          ≡ (byte_digits (get_or bytes i 0) ++ (if (i + 1 == length bytes) || (i % 16 == 15) then 10 else 32) ∷ []) ++ byte_lines (i + 1) rest
      by_rest [] e = let last : (i + 1 == length bytes) ≡ true = grind (arith, e) in rw last refl
      by_rest (c ∷ rest) e = let inner : (i + 1 == length bytes) ≡ false = grind (arith, e) in rw inner refl

-- only the place in the line counts
pub lines-place : (bytes : List ℕ) (m n : ℕ) → m % 16 ≡ n % 16 → byte_lines m bytes ≡ byte_lines n bytes
lines-place [] m n e = refl
lines-place (b ∷ []) m n e = refl
lines-place (b ∷ c ∷ bytes) m n e =
    let later = lines-place (c ∷ bytes) (m + 1) (n + 1) (omega (arith, e)) in
    ap (λ k. byte_digits b ++ ((if k == 15 then 10 else 32) ∷ byte_lines (m + 1) (c ∷ bytes))) e
    ∙ ap (λ text. byte_digits b ++ ((if n % 16 == 15 then 10 else 32) ∷ text)) later

-- whole lines, before others
pub lines-append : (xs ys : List ℕ) (n : ℕ) → (n + length xs) % 16 ≡ 0 → byte_lines n (xs ++ ys) ≡ byte_lines n xs ++ byte_lines 0 ys
lines-append [] ys n e = lines-place ys n 0 (omega (arith, e))
lines-append (b ∷ []) [] n e = sym (append-nil (byte_lines n (b ∷ [])))
lines-append (b ∷ []) (c ∷ ys) n e =
    let last : n % 16 ≡ 15 = omega (arith, e) in
    let end : (n % 16 == 15) ≡ true = grind (arith, last) in
    rw end (ap (λ text. byte_digits b ++ (10 ∷ text)) (lines-place (c ∷ ys) (n + 1) 0 (omega (arith, e))))
lines-append (b ∷ c ∷ xs) ys n e =
    ap (λ text. byte_digits b ++ ((if n % 16 == 15 then 10 else 32) ∷ text)) (lines-append (c ∷ xs) ys (n + 1) (omega (arith, e)))

-- no zero at the front
pub zeros_end : (n : ℕ) (digits : List ℕ) → (0 < length digits → get_or digits 0 0 ≢ 48) → digits ≡ without_zeros n digits
zeros_end zero digits h = refl
zeros_end (suc n) [] h = refl
zeros_end (suc n) (d ∷ digits) h = let other : (d == 48) ≡ false = by_case (d == 48) refl in rw other refl where
  by_case : (t : Bool) → (d == 48) ≡ t → t ≡ false
  by_case true e = absurd (h (omega arith) (grind (arith, e)))
  by_case false e = refl

-- a zero at the front
pub zeros_step : (n left : ℕ) (rest after : List ℕ) → rest ≡ 48 ∷ after → suc n ≡ left → without_zeros n after ≡ without_zeros left rest
zeros_step n left rest after is e = rw (is, ← e) refl
