-- The entries of regions' lists, with the sections that are placed for them.
use Rattle.std.specs.Prelude.{◌≡◌, ℕ, List, map, flat_map, find, Option, Some, None}
use Rattle.std.specs.List.{enumerate_from}
use Rattle.mufom_plan.specs.declared.plan.Region.{Region}
use Rattle.mufom_plan.specs.Names.{has_name}
use Rattle.mufom_place.specs.declared.placing.Waiting.{Waiting}
use Rattle.mufom_planned.specs.Numbers.{entries_before, start_among, end_among}
use Rattle.mufom_locating.specs.declared.entries.Listed.{Listed}

-- the first region in whose list an entry is, with its position
abbrev pub listing_of : List Region → List ℕ → Option (ℕ × Region)
listing_of regions entry = find (λ r. has_name r.1.sections entry) (enumerate_from 0 regions)

-- the entry is in the list of this region, and these sections are placed for it and for the entries before it, given those of each entry
pub record HasEntry (placed_for : List ℕ → List Waiting) (regions : List Region) (entry : List ℕ) (listed : Listed) : Type 0 where
  pub found : listing_of regions entry ≡ Some (listed.place, listed.region.now)
  pub before : listed.before.now ≡ map placed_for (entries_before entry listed.region.now.sections)
  pub own : listed.own.now ≡ placed_for entry

-- the entry is in a list, or in none
abbrev pub IsEntry : (List ℕ → List Waiting) → List Region → List ℕ → Option Listed → Type 0
IsEntry placed_for regions entry None = listing_of regions entry ≡ None
IsEntry placed_for regions entry (Some listed) = HasEntry placed_for regions entry listed

-- where the entry begins, and ends, at some bases
abbrev pub start_by : List ℕ → Listed → ℕ
start_by bases listed = start_among bases listed.region.now.base (flat_map (λ own. own) listed.before.now) listed.own.now

abbrev pub end_by : List ℕ → Listed → ℕ
end_by bases listed = end_among bases listed.region.now.base (flat_map (λ own. own) listed.before.now) listed.own.now
