-- The entries that are reached: the smallest set that contains given entries and, with each of its entries, those that this one needs. Entries are
-- numbers, and a set is a test of them.
use Rattle.std.specs.Prelude.{◌≡◌, ℕ, List, length, slice_get, Some, Bool, true}
use Rattle.std.specs.List.{AllByRecursion}
use Rattle.mufom_select.specs.Choice.{is_marked}

-- all these entries are in the set
abbrev pub HasAll : (ℕ → Bool) → List ℕ → Type 0
HasAll has entries = AllByRecursion (λ n. has n ≡ true) entries

-- The set contains the roots and, with each entry, everything that the entry needs. `needs` lists the needs of all entries, in the order of their
-- numbers.
pub record IsClosed (needs : List (List ℕ)) (roots : List ℕ) (has : ℕ → Bool) : Type 0 where
  pub rooted : HasAll has roots
  pub further : (n : ℕ) (ns : List ℕ) → has n ≡ true → slice_get needs n ≡ Some ns → HasAll has ns

-- The marked entries are the smallest closed set: they are closed, and part of every closed set. There is a mark for each entry.
pub record IsReached (needs : List (List ℕ)) (roots : List ℕ) (marks : List Bool) : Type 0 where
  pub sized : length marks ≡ length needs
  pub closed : IsClosed needs roots (is_marked marks)
  pub least : (has : ℕ → Bool) → IsClosed needs roots has → (n : ℕ) → is_marked marks n ≡ true → has n ≡ true
