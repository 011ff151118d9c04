-- Numbered lists, comparisons and choices.
use Rattle.std.proofs.Common.{◌≡◌, ℕ, zero, suc, ◌+◌, ◌≤◌, ◌⊎◌, inl, inr, List, [], ◌∷◌, Some, None, Bool, true, false, ◌||◌, refl, sym, ◌∙◌, ap, arith, rules}
use Rattle.std.specs.Prelude.{slice_get, nat_le, if◌then◌else◌}
use Rattle.std.specs.List.{enumerate_from}

pub enumerate_get : {A : Type 0} (k : ℕ) (xs : List A) (i : ℕ) (p : ℕ × A) → slice_get (enumerate_from k xs) i ≡ Some p → (p.0 ≡ k + i)
    × (slice_get xs i ≡ Some p.1)
enumerate_get k [] i p e = absurd cc
enumerate_get k (x ∷ xs) zero p e = let a : (k, x) ≡ p = cc in let n : k ≡ k + 0 = omega arith in (sym (ap (λ q. q.0) a) ∙ n, ap (λ q. Some q.1) a)
enumerate_get k (x ∷ xs) (suc i) p e = let rest = enumerate_get (k + 1) xs i p e in let n : (k + 1) + i ≡ k + suc i = omega arith in (rest.0 ∙ n, rest.1)

pub get_enumerate : {A : Type 0} (k : ℕ) (xs : List A) (i : ℕ) (x : A) → slice_get xs i ≡ Some x → slice_get (enumerate_from k xs) i ≡ Some (k + i, x)
get_enumerate k [] i x e = absurd cc
get_enumerate k (y ∷ ys) zero x e = let same : y ≡ x = cc in let n : k ≡ k + 0 = omega arith in λ j. Some (n j, same j)
get_enumerate k (y ∷ ys) (suc i) x e = let rest = get_enumerate (k + 1) ys i x e in let n : (k + 1) + i ≡ k + suc i = omega arith in rest ∙ (λ j. Some (n j, x))

pub le_of : (m n : ℕ) → nat_le m n ≡ true → m ≤ n
le_of m n e = search rules

pub of_le : (m n : ℕ) → m ≤ n → nat_le m n ≡ true
of_le m n h = search rules

pub chosen_some : {A : Type 0} (b : Bool) (x y : A) → (if b then Some x else None) ≡ Some y → (b ≡ true) × (x ≡ y)
chosen_some true x y e = (refl, cc)
chosen_some false x y e = absurd cc

pub chosen_none : {A : Type 0} (b : Bool) (x : A) → (if b then Some x else None) ≡ None → b ≡ false
chosen_none true x e = absurd cc
chosen_none false x e = refl

pub either : (a b : Bool) → (a || b) ≡ true → (a ≡ true) ⊎ (b ≡ true)
either true b e = inl refl
either false b e = inr e

pub either_false : (a b : Bool) → (a || b) ≡ false → (a ≡ false) × (b ≡ false)
either_false true b e = absurd cc
either_false false b e = (refl, e)
