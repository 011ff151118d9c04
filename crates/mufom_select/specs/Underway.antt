-- A choice in progress: what is marked, what has been looked at, and that nothing is chosen without need.
use Rattle.std.specs.Prelude.{◌≡◌, ℕ, ◌+◌, ◌<◌, List, [], ◌∷◌, length, flat_map, slice_get, Some, Bool, true, false}
use Rattle.std.specs.List.{AllByRecursion}
use Rattle.mufom_names.specs.declared.name.Reference.{Reference}
use Rattle.mufom_module.specs.declared.module.Parts.{Parts}
use Rattle.mufom_select.specs.Choice.{Choice, is_marked, needed_by}

-- the number of set marks
abbrev pub count : List Bool → ℕ
count [] = 0
count (true ∷ marks) = 1 + count marks
count (false ∷ marks) = count marks

-- the member is marked
abbrev pub Marked : Choice → ℕ → Type 0
Marked c n = is_marked c.marks n ≡ true

-- The marks and the order agree on the chosen members; `size` is the number of all members.
pub record AreOne (size : ℕ) (c : Choice) : Type 0 where
  pub sized : length c.marks ≡ size
  pub inside : AllByRecursion (λ n. n < size) c.order
  pub marked : AllByRecursion (Marked c) c.order
  pub ordered : (n : ℕ) → Marked c n → (j : ℕ) × (slice_get c.order j ≡ Some n)
  pub counted : length c.order ≡ count c.marks

-- the references of a member
abbrev pub references_of : Parts → List Reference
references_of m = m.names.references

-- a set of members that has each one that the roots need and, with each of its members, those that this member needs
pub record Passes (roots members : List Parts) (test : ℕ → Bool) : Type 0 where
  pub first : AllByRecursion (λ n. test n ≡ true) (needed_by roots members (flat_map references_of roots))
  pub more : (n : ℕ) (m : Parts) → test n ≡ true → slice_get members n ≡ Some m
      → AllByRecursion (λ k. test k ≡ true) (needed_by roots members m.names.references)

-- The loop's invariant: everything that the first `turns` members of the order need is marked.
pub record IsUnderway (roots members : List Parts) (turns : ℕ) (c : Choice) : Type 0 where
  pub one : AreOne (length members) c
  pub rooted : AllByRecursion (Marked c) (needed_by roots members (flat_map references_of roots))
  pub done : (j n : ℕ) (m : Parts) → j < turns → slice_get c.order j ≡ Some n → slice_get members n ≡ Some m
      → AllByRecursion (Marked c) (needed_by roots members m.names.references)
  pub least : (test : ℕ → Bool) → Passes roots members test → AllByRecursion (λ n. test n ≡ true) c.order

-- no member is marked, and there is a mark for each
pub record IsStart (size : ℕ) (c : Choice) : Type 0 where
  pub sized : length c.marks ≡ size
  pub empty : c.order ≡ []
  pub unmarked : count c.marks ≡ 0
