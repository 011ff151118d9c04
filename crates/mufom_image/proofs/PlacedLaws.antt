-- A list of which one item after another is made of itself and its position.
use Rattle.std.proofs.Common.{◌≡◌, ℕ, zero, suc, ◌+◌, ◌<◌, ◌≤◌, List, [], ◌∷◌, ◌++◌, length, map, take, drop, get_or, set, refl, sym, ap, ◌∙◌}
use Rattle.std.proofs.Common.{append-nil, arith}
use Rattle.std.specs.List.{enumerate_from}
use Rattle.std.proofs.lemmas.List.{drop_all}

module _ {A : Type 0} (made : ℕ × A → A) where
  -- the list where the items before a position are made, the first of them at this number
  abbrev pub made_until : ℕ → List A → ℕ → List A
  made_until n xs k = map made (take k (enumerate_from n xs)) ++ drop k xs

  -- one item more
  pub made-more : (n : ℕ) (xs : List A) (k : ℕ) (x : A) → k < length xs → x ≡ get_or (made_until n xs k) k x
      → set (made_until n xs k) k (made (n + k, x)) ≡ made_until n xs (k + 1)
  made-more n [] k x less is = absurd (omega (arith, less))
  made-more n (y ∷ xs) zero x less is =
      let first : n + 0 ≡ n = omega arith in
      λ i. made (first i, is i) ∷ xs
  made-more n (y ∷ xs) (suc k) x less is =
      let place : n + suc k ≡ (n + 1) + k = omega arith in
      let later : suc k + 1 ≡ suc (k + 1) = omega arith in
      ap (λ p. made (n, y) ∷ set (made_until (n + 1) xs k) k (made (p, x))) place
      ∙ ap (λ rest. made (n, y) ∷ rest) (made-more (n + 1) xs k x (omega (arith, less)) is)
      ∙ ap (made_until n (y ∷ xs)) (sym later)

  -- all items
  pub made-all : (n : ℕ) (xs : List A) (k : ℕ) → length xs ≤ k → made_until n xs k ≡ map made (enumerate_from n xs)
  made-all n [] k past = ap (λ rest. map made (take k []) ++ rest) (drop_all k [] past) ∙ append-nil (map made (take k [])) ∙ none k where
    none : (k : ℕ) → map made (take k []) ≡ []
    none zero = refl
    none (suc k) = refl
  made-all n (x ∷ xs) zero past = absurd (omega (arith, past))
  made-all n (x ∷ xs) (suc k) past = ap (λ rest. made (n, x) ∷ rest) (made-all (n + 1) xs k (omega (arith, past)))
