-- Numbering the entries of several lists: all entries are counted through the lists, in order.
use Rattle.std.specs.Prelude.{ℕ, zero, suc, ◌+◌, ◌-◌, ◌<◌, ◌≤◌, length, slice_index, List, [], ◌∷◌, ◌++◌, take, drop, min, flat_map, Option, Some, option_map}
use Rattle.std.specs.Prelude.{None, option_to_list, slice_get, nat_lt, count_by, Bool, true, false, if◌then◌else◌}
use Rattle.mufom_origins.specs.declared.origins.Place.{Place}

-- the place of the entry with a number; the lists, from the one at this position on, have these numbers of entries
abbrev pub place_from : ℕ → List ℕ → ℕ → Option Place
place_from position [] number = None
place_from position (count ∷ counts) number =
    if nat_lt number count then Some (record { «module» = position; entry = number }) else place_from (suc position) counts (number - count)

-- the place of the entry with a number, in lists with these numbers of entries; none after the last entry
abbrev pub place_in : List ℕ → ℕ → Option Place
place_in counts number = place_from 0 counts number

-- the list of the entry with a number, by its position
abbrev pub module_in : List ℕ → ℕ → Option ℕ
module_in counts number = option_map (λ (p : Place). p.«module») (place_in counts number)

-- the number of entries up to the end of each list, with this many others before
abbrev pub ends_from : ℕ → List ℕ → List ℕ
ends_from before [] = []
ends_from before (count ∷ counts) = (before + count) ∷ ends_from (before + count) counts

-- the number of entries before the list at a position, given the ends
abbrev pub entries_before : ℕ → List ℕ → ℕ → ℕ
entries_before before ends zero = before
entries_before before [] (suc k) = before
entries_before before (e ∷ ends) (suc k) = entries_before e ends k

-- the greatest number that the code counts to
abbrev pub most_counted : ℕ
most_counted = 18446744073709551615

abbrev pub capped : ℕ → ℕ
capped n = min n most_counted

-- the elements at these positions
abbrev pub at_positions : {X : Type 0} → List X → List ℕ → List X
at_positions xs positions = flat_map (λ n. option_to_list (slice_get xs n)) positions

-- the first `roots` elements, and those of the others at the chosen positions
abbrev pub with_chosen : {X : Type 0} → ℕ → List ℕ → List X → List X
with_chosen roots chosen xs = take roots xs ++ at_positions (drop roots xs) chosen

-- the number of set marks
abbrev pub set_marks : List Bool → ℕ
set_marks marks = count_by (λ (mark : Bool). mark) marks

-- the positions of the set marks; the first mark has this position
abbrev pub set_from : ℕ → List Bool → List ℕ
set_from position [] = []
set_from position (true ∷ marks) = position ∷ set_from (suc position) marks
set_from position (false ∷ marks) = set_from (suc position) marks

-- the ends before this position are at most the number, and the others are greater
pub record HasEnded (ends : List ℕ) (number position : ℕ) : Type 0 where
  pub within : position ≤ length ends
  pub at_most : (i : ℕ) → i < position → slice_index ends i ≤ number
  pub greater : (i : ℕ) → position ≤ i → i < length ends → number < slice_index ends i
