-- Entries that are marked one after another: what is marked, what has been looked at, and that nothing is marked without need.
use Rattle.std.specs.Prelude.{◌≡◌, ℕ, ◌<◌, List, slice_get, Some, Bool, length}
use Rattle.std.specs.List.{AllByRecursion}
use Rattle.mufom_select.specs.Choice.{Choice}
use Rattle.mufom_select.specs.Underway.{Marked, AreOne}
use Rattle.mufom_prune.specs.Reached.{HasAll, IsClosed}

-- all these entries are below a number
abbrev pub AreBelow : ℕ → List ℕ → Type 0
AreBelow size entries = AllByRecursion (λ n. n < size) entries

-- everything that the entries need is below a number
abbrev pub AllBelow : ℕ → List (List ℕ) → Type 0
AllBelow size needs = AllByRecursion (AreBelow size) needs

-- all these entries are marked
abbrev pub AreMarked : Choice → List ℕ → Type 0
AreMarked c entries = AllByRecursion (Marked c) entries

-- The loop's invariant: everything that the first `turns` entries of the order need is marked.
pub record IsUnderway (needs : List (List ℕ)) (roots : List ℕ) (turns : ℕ) (c : Choice) : Type 0 where
  pub one : AreOne (length needs) c
  pub rooted : AreMarked c roots
  pub done : (j n : ℕ) (ns : List ℕ) → (j < turns) → slice_get c.order j ≡ Some n → slice_get needs n ≡ Some ns → AreMarked c ns
  pub least : (has : ℕ → Bool) → IsClosed needs roots has → HasAll has c.order
