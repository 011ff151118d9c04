-- The selected members are determined: two least closed choices have the same members, and both are in order.
use Rattle.std.proofs.Common.{◌≡◌, ℕ, zero, suc, ◌<◌, ◌⊎◌, inl, inr, List, [], ◌∷◌, length, refl, sym, arith}
use Rattle.std.specs.Prelude.{Contains}
use Rattle.std.specs.List.{AllPairs, slice_index_or}
use Rattle.std.proofs.lemmas.List.Kept.{AllPairs-from_increasing}
use Rattle.mufom_meaning.specs.LocationLaws.{SelectionIsSingle}

-- each number is below all later ones
abbrev Rise : List ℕ → Type 0
Rise xs = AllPairs (λ x y. x < y) xs

first_below : (x : ℕ) (xs : List ℕ) → Rise (x ∷ xs) → (n : ℕ) → Contains xs n → x < n
first_below x xs rise n h =
    let inside : suc h.0 < length (x ∷ xs) = omega (arith, h.1) in
    let less : x < slice_index_or xs h.0 n = rise 0 (suc h.0) n (omega arith) inside in
    omega (arith, less, h.2)

rest_rises : (x : ℕ) (xs : List ℕ) → Rise (x ∷ xs) → Rise xs
rest_rises x xs rise i j d less inside = rise (suc i) (suc j) d (omega (arith, less)) (omega (arith, inside))

first_or_later : (x : ℕ) (xs : List ℕ) (n : ℕ) → Contains (x ∷ xs) n → (x ≡ n) ⊎ Contains xs n
first_or_later x xs n h = by_place h.0 h.1 h.2 where
  by_place : (k : ℕ) → k < length (x ∷ xs) → slice_index_or (x ∷ xs) k n ≡ n → (x ≡ n) ⊎ Contains xs n
  by_place zero inside e = inl e
  by_place (suc k) inside e = let within : k < length xs = omega (arith, inside) in inr (k, within, e)

at_first : (x : ℕ) (xs : List ℕ) → Contains (x ∷ xs) x
at_first x xs = let inside : 0 < length (x ∷ xs) = omega arith in (0, inside, refl)

later_too : (x : ℕ) (xs : List ℕ) (n : ℕ) → Contains xs n → Contains (x ∷ xs) n
later_too x xs n h = let inside : suc h.0 < length (x ∷ xs) = omega (arith, h.1) in (suc h.0, inside, h.2)

-- where one is first and the other list has all its numbers, the rest has all the numbers of the rest
rest_within : (x y : ℕ) (xs ys : List ℕ) → x ≡ y → Rise (x ∷ xs) → ((n : ℕ) → Contains (x ∷ xs) n → Contains (y ∷ ys) n) → (n : ℕ) → Contains xs n
    → Contains ys n
rest_within x y xs ys same rise within n h = by_case (first_or_later y ys n (within n (later_too x xs n h))) where
  by_case : (y ≡ n) ⊎ Contains ys n → Contains ys n
  by_case (inl e) = absurd (let less = first_below x xs rise n h in omega (arith, less, same, e))
  by_case (inr there) = there

first_same : (x y : ℕ) (xs ys : List ℕ) → Rise (x ∷ xs) → Rise (y ∷ ys) → (y ≡ x) ⊎ Contains ys x → (x ≡ y) ⊎ Contains xs y → x ≡ y
first_same x y xs ys p q (inl e) b = sym e
first_same x y xs ys p q (inr there) (inl e) = e
first_same x y xs ys p q (inr there) (inr back) = let less = first_below y ys q x there in let more = first_below x xs p y back in
    absurd (omega (arith, less, more))

-- rising lists with the same numbers are the same
same_numbers : (xs ys : List ℕ) → Rise xs → Rise ys → ((n : ℕ) → Contains xs n → Contains ys n) → ((n : ℕ) → Contains ys n → Contains xs n) → xs ≡ ys
same_numbers [] [] p q there back = refl
same_numbers [] (y ∷ ys) p q there back = absurd (let none = (back y (at_first y ys)).1 in omega (arith, none))
same_numbers (x ∷ xs) [] p q there back = absurd (let none = (there x (at_first x xs)).1 in omega (arith, none))
same_numbers (x ∷ xs) (y ∷ ys) p q there back =
    let same = first_same x y xs ys p q (first_or_later y ys x (there x (at_first x xs))) (first_or_later x xs y (back y (at_first y ys))) in
    let rest = same_numbers xs ys (rest_rises x xs p) (rest_rises y ys q) (rest_within x y xs ys same p there) (rest_within y x ys xs (sym same) q back) in
    λ i. same i ∷ rest i

pub selection_is_single : SelectionIsSingle
selection_is_single ms members chosen other p q =
    same_numbers chosen other (AllPairs-from_increasing chosen p.increasing) (AllPairs-from_increasing other q.increasing) (p.least other q.closed)
    (q.least chosen p.closed)
