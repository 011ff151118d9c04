-- The loads of runs.
use Rattle.std.proofs.Common.{◌≡◌, ℕ, zero, suc, ◌<◌, ◌≤◌, min, List, [], ◌∷◌, length, take, drop, Bool, true, false, refl, sym, ◌∙◌, ap, arith}
use Rattle.std.specs.Prelude.{nat_lt}
use Rattle.std.proofs.Math.ListN.{drop_of_length-le}
use Rattle.std.proofs.lemmas.List.{length-drop, take_all}
use Rattle.mufom_numbers.specs.declared.limits.TheConstants.{MOST_STRING_BYTES}
use Rattle.mufom_numbers.proofs.Choices.{of_lt, of_not_lt}
use Rattle.mufom_loads.specs.declared.load.Item.TheVariants.{Literal}
use Rattle.mufom_loads.specs.declared.load.Load.{Load}
use Rattle.mufom_loads.specs.declared.load.Load.TheVariants.{One}
use Rattle.mufom_titxt.specs.TextModules.{literals}

-- as many as there are bytes are enough
literals-enough : (m n : ℕ) (bytes : List ℕ) → length bytes ≤ m → length bytes ≤ n → literals m bytes ≡ literals n bytes
literals-enough zero zero bytes few less = refl
literals-enough zero (suc n) [] few less = refl
literals-enough (suc m) zero [] few less = refl
literals-enough zero (suc n) (b ∷ bytes) few less = absurd (omega (arith, few))
literals-enough (suc m) zero (b ∷ bytes) few less = absurd (omega (arith, less))
literals-enough (suc m) (suc n) [] few less = refl
literals-enough (suc m) (suc n) (b ∷ bytes) few less =
    let e = length-drop 65534 bytes in
    ap (λ (loads : List Load). One (Literal (take MOST_STRING_BYTES (b ∷ bytes))) ∷ loads)
    (literals-enough m n (drop MOST_STRING_BYTES (b ∷ bytes)) (omega (arith, few, e)) (omega (arith, less, e)))

-- the first literal
pub literals-step : (n : ℕ) (rest : List ℕ) → 0 < length rest → n ≡ min (length rest) MOST_STRING_BYTES
    → literals (length rest) rest ≡ One (Literal (take n rest)) ∷ literals (length (drop n rest)) (drop n rest)
literals-step n [] some e = absurd (omega (arith, some))
literals-step n (b ∷ bytes) some e =
    let same : take MOST_STRING_BYTES (b ∷ bytes) ≡ take n (b ∷ bytes) = by_take (nat_lt MOST_STRING_BYTES (length (b ∷ bytes))) refl in
    let left : drop MOST_STRING_BYTES (b ∷ bytes) ≡ drop n (b ∷ bytes) = by_drop (nat_lt MOST_STRING_BYTES (length (b ∷ bytes))) refl in
    let count = length-drop n (b ∷ bytes) in
    let most : 1 ≤ n = omega (arith, e) in
    ap (λ (part : List ℕ). One (Literal part) ∷ literals (length bytes) (drop MOST_STRING_BYTES (b ∷ bytes))) same
    ∙ (ap (λ (rest : List ℕ). One (Literal (take n (b ∷ bytes))) ∷ literals (length bytes) rest) left
    ∙ ap (λ (loads : List Load). One (Literal (take n (b ∷ bytes))) ∷ loads)
    (literals-enough (length bytes) (length (drop n (b ∷ bytes))) (drop n (b ∷ bytes)) (omega (arith, count, most)) (omega arith))) where
      by_take : (t : Bool) → nat_lt MOST_STRING_BYTES (length (b ∷ bytes)) ≡ t → take MOST_STRING_BYTES (b ∷ bytes) ≡ take n (b ∷ bytes)
      by_take true less = let more : MOST_STRING_BYTES < length (b ∷ bytes) = of_lt _ _ less in
          let same : n ≡ MOST_STRING_BYTES = omega (arith, e, more) in ap (λ k. take k (b ∷ bytes)) (sym same)
      by_take false less = let few : length (b ∷ bytes) ≤ MOST_STRING_BYTES = of_not_lt _ _ less in
          let same : n ≡ length (b ∷ bytes) = omega (arith, e, few) in
          take_all MOST_STRING_BYTES (b ∷ bytes) few ∙ sym (take_all n (b ∷ bytes) (omega (arith, same)))

      by_drop : (t : Bool) → nat_lt MOST_STRING_BYTES (length (b ∷ bytes)) ≡ t → drop MOST_STRING_BYTES (b ∷ bytes) ≡ drop n (b ∷ bytes)
      by_drop true less = let more : MOST_STRING_BYTES < length (b ∷ bytes) = of_lt _ _ less in
          let same : n ≡ MOST_STRING_BYTES = omega (arith, e, more) in ap (λ k. drop k (b ∷ bytes)) (sym same)
      by_drop false less = let few : length (b ∷ bytes) ≤ MOST_STRING_BYTES = of_not_lt _ _ less in
          let same : length (b ∷ bytes) ≤ n = omega (arith, e, few) in
          drop_of_length-le (b ∷ bytes) few ∙ sym (drop_of_length-le (b ∷ bytes) same)
