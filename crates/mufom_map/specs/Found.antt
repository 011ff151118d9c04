-- The element that a search found.
use Rattle.std.specs.Prelude.{ℕ, List, Option, None, Some, slice_get}

-- the element at a position, if there is one
abbrev pub element_at : {X : Type 0} → List X → Option ℕ → Option X
element_at xs None = None
element_at xs (Some i) = slice_get xs i
