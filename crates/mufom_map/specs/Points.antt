-- Points of the address space, and the distances of addresses above them.
use Rattle.std.specs.Prelude.{◌≡◌, ℕ, ◌+◌, ◌-◌, ◌≤◌, List, length, take, slice_index, sum}

-- the greatest point: no end of a region or of a section is above it
abbrev pub most_point : ℕ
most_point = 36893488147419103232

-- the distance of an address above a point, or 0 if it is not above the point
abbrev pub above : ℕ → ℕ → ℕ
above a point = a - point

-- the sums of the first i points, for each i from 0 to the number of points
pub record AreSums (points sums : List ℕ) : Type 0 where
  pub count : length sums ≡ length points + 1
  pub each : (i : ℕ) → i ≤ length points → slice_index sums i ≡ sum (take i points)
