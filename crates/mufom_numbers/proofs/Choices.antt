-- Options, tests and comparisons of numbers.
use Rattle.std.proofs.Common.{◌≡◌, ℕ, ◌<◌, ◌≤◌, Option, Some, None, Bool, true, false, ◌||◌, refl, ◌∙◌, ap, rules}
use Rattle.std.specs.Prelude.{option_map, nat_lt, nat_le, ◌==◌}

pub some_same : {A : Type 0} (x y : A) → ◌≡◌ {A = Option A} (Some x) (Some y) → x ≡ y
some_same x y e = cc

pub mapped_some : {A B : Type 0} (f : A → B) (o : Option A) (b : B) → option_map f o ≡ Some b → (a : A) × (o ≡ Some a) × (f a ≡ b)
mapped_some f None b e = absurd cc
mapped_some f (Some a) b e = (a, refl, some_same (f a) b e)

pub mapped_none : {A B : Type 0} (f : A → B) (o : Option A) → option_map f o ≡ None → o ≡ None
mapped_none f None e = refl
mapped_none f (Some x) e = absurd cc

pub two_false : (a b : Bool) → a ≡ false → b ≡ false → (a || b) ≡ false
two_false a b e f = ap (λ c. c || b) e ∙ f

pub equal_numbers : (m n : ℕ) → (m == n) ≡ true → m ≡ n
equal_numbers m n e = search rules

pub of_lt : (a b : ℕ) → nat_lt a b ≡ true → a < b
of_lt a b h = search rules

pub is_lt : (a b : ℕ) → a < b → nat_lt a b ≡ true
is_lt a b h = search rules

pub of_not_lt : (a b : ℕ) → nat_lt a b ≡ false → b ≤ a
of_not_lt a b h = search rules

pub not_lt : (a b : ℕ) → b ≤ a → nat_lt a b ≡ false
not_lt a b h = search rules

pub of_not_le : (a b : ℕ) → nat_le a b ≡ false → b < a
of_not_le a b h = search rules

pub not_le : (a b : ℕ) → b < a → nat_le a b ≡ false
not_le a b h = search rules
