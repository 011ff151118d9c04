-- The first of the greatest elements of a list.
use Rattle.std.specs.Prelude.{◌≡◌, ℕ, ◌<◌, ◌≤◌, List, [], ◌∷◌, ◌++◌, Option, Some, None, nat_lt, if◌then◌else◌}
use Rattle.std.specs.List.{All}

-- the element, unless the other one is greater
abbrev pub unless_greater : {X : Type 0} → (X → ℕ) → X → Option X → Option X
unless_greater key x None = Some x
unless_greater key x (Some y) = if nat_lt (key x) (key y) then Some y else Some x

-- the first of the elements with the greatest key
abbrev pub first_greatest : {X : Type 0} → (X → ℕ) → List X → Option X
first_greatest key [] = None
first_greatest key (x ∷ xs) = unless_greater key x (first_greatest key xs)

-- the same as a relation: each element before it has a smaller key, and none after it a greater one
pub record IsFirstGreatest {X : Type 0} (key : X → ℕ) (xs : List X) (x : X) : Type 0 where
  pub before : List X
  pub after : List X
  pub is : xs ≡ before ++ x ∷ after
  pub lesser : All (λ y. key y < key x) before
  pub at_most : All (λ y. key y ≤ key x) after
