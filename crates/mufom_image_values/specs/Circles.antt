-- Chains of positions in a graph, cycles among them, and the search for cycles.
use Rattle.std.specs.Prelude.{ℕ, zero, suc, ◌<◌, ◌≤◌, List, [], ◌∷◌, ◌++◌, get_or, set, Option, Some, None, slice_get, unwrap_or, Contains, Bool}
use Rattle.std.specs.Prelude.{true, false, nat_lt, nat_le, if◌then◌else◌}
use Rattle.std.specs.List.{list_all}

-- a chain of k + 1 steps from one position to another
abbrev pub Leads : (ℕ → List ℕ) → ℕ → ℕ → ℕ → Type 0
Leads edges zero a b = Contains (edges a) b
Leads edges (suc k) a b = (c : ℕ) × Contains (edges a) c × Leads edges k c b

-- a chain leads from the position back to it
abbrev pub IsOnCircle : (ℕ → List ℕ) → ℕ → Type 0
IsOnCircle edges n = (k : ℕ) × Leads edges k n n

-- the first position below a count that lies on a cycle
abbrev pub IsFirstOnCircle : (ℕ → List ℕ) → ℕ → Option ℕ → Type 0
IsFirstOnCircle edges count None = (n : ℕ) → n < count → ¬ IsOnCircle edges n
IsFirstOnCircle edges count (Some first) = (first < count) × IsOnCircle edges first × ((n : ℕ) → n < first → ¬ IsOnCircle edges n)

-- the number at a position, or 0 after the end
abbrev pub number_at : List ℕ → ℕ → ℕ
number_at numbers n = unwrap_or (slice_get numbers n) 0

-- the step leads to a smaller number, or also to an equal one unless `strictly`; true if there is no step
abbrev pub is_down : (ℕ → ℕ) → ℕ → Bool → Option ℕ → Bool
is_down number own strictly None = true
is_down number own strictly (Some n) = if strictly then nat_lt (number n) own else nat_le (number n) own

-- all steps from a position lead down
abbrev pub leads_down : (ℕ → ℕ) → (ℕ → List ℕ) → Bool → ℕ → Bool
leads_down number edges strictly n = list_all (λ next. is_down number (number n) strictly (Some next)) (edges n)

-- no step leads up
abbrev pub NeverRises : (ℕ → ℕ) → (ℕ → List ℕ) → Type 0
NeverRises number edges = (n next : ℕ) → Contains (edges n) next → number next ≤ number n

-- the state of a search: a mark for each position that was found, and the positions that are still to be followed, the latest last
pub record Search : Type 0 where
  pub marks : List Bool
  pub pending : List ℕ

abbrev pub search_of : List Bool → List ℕ → Search
search_of marks pending = record { marks = marks; pending = pending }

-- the position has a mark
abbrev pub is_marked : Search → ℕ → Bool
is_marked s n = get_or s.marks n false

-- the search once a position is found: it is marked and added to the pending ones, unless it was marked before
abbrev pub with_position : Search → ℕ → Search
with_position s n = if is_marked s n then s else search_of (set s.marks n true) (s.pending ++ n ∷ [])

-- the search once some positions are found, one after another
abbrev pub followed : List ℕ → Search → Search
followed [] s = s
followed (n ∷ positions) s = followed positions (with_position s n)
