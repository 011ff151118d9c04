-- Loops that put the texts of a list one after another.
use Rattle.std.proofs.Common.{◌≡◌, ℕ, zero, suc, ◌+◌, ◌<◌, ◌≤◌, List, [], ◌∷◌, ◌++◌, length, take, get_or, flat_map, sym, ap, subst, ◌∙◌, arith, append_assoc}
use Rattle.mufom_text.specs.Words.{each_from, each}
use Rattle.std.proofs.lemmas.List.{append-nil, take_all}
use Rattle.std.proofs.lemmas.Grind.{flat_map-append}
use Rattle.std.proofs.Math.Seq.{take-suc}

module _ {S X : Type 0} (takes : S → S → List ℕ → Type 0) (joins : (a b c : S) (xs ys : List ℕ) → takes a b xs → takes b c ys
    → takes a c (xs ++ ys)) (f : X → List ℕ) where
  -- the texts of one entry more
  flat_next : (xs : List X) (i : ℕ) (d x : X) → i < length xs → x ≡ get_or xs i d → flat_map f (take (i + 1) xs) ≡ flat_map f (take i xs) ++ f x
  flat_next xs i d x inside is =
      let next : i + 1 ≡ suc i = omega arith in
      ap (λ n. flat_map f (take n xs)) next ∙ ap (flat_map f) (take-suc xs i d inside) ∙ flat_map-append f (take i xs) (get_or xs i d ∷ [])
      ∙ ap (λ l. flat_map f (take i xs) ++ l) (append-nil (f (get_or xs i d)) ∙ ap f (sym is))

  pub flat-step : (xs : List X) (i : ℕ) (d x : X) (a b c : S) → i < length xs → x ≡ get_or xs i d → takes a b (flat_map f (take i xs))
      → takes b c (f x) → takes a c (flat_map f (take (i + 1) xs))
  flat-step xs i d x a b c inside is so_far one = subst (λ (l : List ℕ). takes a c l) (sym (flat_next xs i d x inside is))
      (joins a b c (flat_map f (take i xs)) (f x) so_far one)

  pub flat-end : (xs : List X) (i : ℕ) (a b : S) → length xs ≤ i → takes a b (flat_map f (take i xs)) → takes a b (flat_map f xs)
  flat-end xs i a b past so_far = subst (λ (l : List X). takes a b (flat_map f l)) (take_all i xs past) so_far

-- the texts of one entry more, each by its position
each_take : {X : Type 0} (write : ℕ → X → List ℕ) (n : ℕ) (xs : List X) (i : ℕ) (d : X) → i < length xs → each_from n write (take (suc i) xs)
    ≡ each_from n write (take i xs) ++ write (n + i) (get_or xs i d)
each_take write n [] i d inside = absurd (let none : i < 0 = inside in omega (arith, none))
each_take write n (x ∷ xs) zero d inside = append-nil (write n x) ∙ ap (λ k. write k x) (let same : n ≡ n + 0 = omega arith in same)
each_take write n (x ∷ xs) (suc i) d inside =
    let rest = each_take write (n + 1) xs i d (let more : suc i < suc (length xs) = inside in omega (arith, more)) in
    let count : (n + 1) + i ≡ n + suc i = omega arith in
    ap (λ l. write n x ++ l) rest ∙ sym (append_assoc (write n x) (each_from (n + 1) write (take i xs)) (write ((n + 1) + i) (get_or xs i d)))
    ∙ ap (λ k. (write n x ++ each_from (n + 1) write (take i xs)) ++ write k (get_or xs i d)) count

module _ {S X : Type 0} (takes : S → S → List ℕ → Type 0) (joins : (a b c : S) (xs ys : List ℕ) → takes a b xs → takes b c ys
    → takes a c (xs ++ ys)) (write : ℕ → X → List ℕ) where
  pub each-step : (xs : List X) (i : ℕ) (d x : X) (a b c : S) → i < length xs → x ≡ get_or xs i d → takes a b (each write (take i xs))
      → takes b c (write i x) → takes a c (each write (take (i + 1) xs))
  each-step xs i d x a b c inside is so_far one =
      let next : i + 1 ≡ suc i = omega arith in
      let place : 0 + i ≡ i = omega arith in
      let whole = ap (λ n. each write (take n xs)) next ∙ each_take write 0 xs i d inside
      ∙ ap (λ k. each_from 0 write (take i xs) ++ write k (get_or xs i d)) place ∙ ap (λ y. each_from 0 write (take i xs) ++ write i y) (sym is) in
      subst (λ (l : List ℕ). takes a c l) (sym whole) (joins a b c (each write (take i xs)) (write i x) so_far one)
