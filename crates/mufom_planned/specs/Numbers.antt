-- The values of a plan's symbols, as exact numbers.
use Rattle.std.specs.Prelude.{ℕ, ◌+◌, List, [], ◌∷◌, find, position, take, Option, Some, None, unwrap_or}
use Rattle.std.specs.List.{enumerate_from, flat_map}
use Rattle.std.specs.Str.{bytes_eq}
use Rattle.mufom_plan.specs.declared.plan.Region.{Region}
use Rattle.mufom_plan.specs.declared.plan.SymbolValue.{SymbolValue}
use Rattle.mufom_plan.specs.declared.plan.SymbolValue.TheVariants.{Value, Start, End, Load, RegionEnd}
use Rattle.mufom_plan.specs.declared.plan.Plan.{Plan}
use Rattle.mufom_plan.specs.Names.{has_name, listed_names}
use Rattle.mufom_place.specs.declared.placing.Waiting.{Waiting}
use Rattle.mufom_place.specs.Bases.{numbered, waiting_among}
use Rattle.mufom_place.specs.Copies.{filled_to}
use Rattle.mufom_planned.specs.Layout.{Layout, whole_list, layout_placings, layout_bases, base_in, move_of, moved_to}

-- the sections that are placed for an entry of a region's list, in order
abbrev pub placed_for : Layout → List ℕ → List Waiting
placed_for l entry = waiting_among (listed_names l.plan.regions) (numbered l.sections) entry

-- the base of the first of some sections, or a number if there is none
abbrev pub first_base : List ℕ → ℕ → List Waiting → ℕ
first_base placed number [] = number
first_base placed number (w ∷ more) = base_in placed w.section

-- the end of the last of some sections, or a number if there is none
abbrev pub last_end : List ℕ → ℕ → List Waiting → ℕ
last_end placed number [] = number
last_end placed number (w ∷ more) = last_end placed (base_in placed w.section + w.size) more

-- the entries of a region's list before one of them
abbrev pub entries_before : List ℕ → List (List ℕ) → List (List ℕ)
entries_before entry entries = take (unwrap_or (position (bytes_eq entry) entries) 0) entries

-- Where an entry of a region's list begins, given the base of the region, the sections that are placed for the entries before it, and
-- those that are placed for itself: at the first of its own sections; or else at the end of the last one before it, or at the base of
-- the region.
abbrev pub start_among : List ℕ → ℕ → List Waiting → List Waiting → ℕ
start_among placed base before own = first_base placed (last_end placed base before) own

-- where it ends: at the end of the last section that is placed for it, or else where it begins
abbrev pub end_among : List ℕ → ℕ → List Waiting → List Waiting → ℕ
end_among placed base before own = last_end placed (start_among placed base before own) own

-- the sections that are placed for the entries of a region's list before one of them
abbrev pub placed_before : Layout → Region → List ℕ → List Waiting
placed_before l region entry = flat_map (placed_for l) (entries_before entry region.sections)

-- where an entry of a region's list begins, and ends
abbrev pub start_in : Layout → Region → List ℕ → ℕ
start_in l region entry = start_among (layout_bases l) region.base (placed_before l region entry) (placed_for l entry)

abbrev pub end_in : Layout → Region → List ℕ → ℕ
end_in l region entry = end_among (layout_bases l) region.base (placed_before l region entry) (placed_for l entry)

-- the region of a name, with its position
abbrev pub region_of_name : Plan → List ℕ → Option (ℕ × Region)
region_of_name plan name = find (λ r. bytes_eq r.1.name name) (enumerate_from 0 plan.regions)

-- the region in whose list an entry is, with its position
abbrev pub region_listing : Plan → List ℕ → Option (ℕ × Region)
region_listing plan entry = find (λ r. has_name r.1.sections entry) (enumerate_from 0 plan.regions)

-- the greatest end of what the region places, copies too, or its base if it places nothing
abbrev pub region_end : Layout → ℕ × Region → ℕ
region_end l r = filled_to l.plan.regions (whole_list l) (layout_placings l) r.0

-- an entry of some region's list, and a name of some region, have numbers
abbrev pub number_at : Option (ℕ × Region) → (ℕ × Region → ℕ) → ℕ
number_at None f = 0
number_at (Some r) f = f r

-- the number of a symbol
abbrev pub symbol_number : Layout → SymbolValue → ℕ
symbol_number l (Value number) = number
symbol_number l (Start entry) = number_at (region_listing l.plan entry) (λ r. start_in l r.1 entry)
symbol_number l (End entry) = number_at (region_listing l.plan entry) (λ r. end_in l r.1 entry)
symbol_number l (Load entry) = number_at (region_listing l.plan entry) (λ r. moved_to (move_of l r) (start_in l r.1 entry))
symbol_number l (RegionEnd name) = number_at (region_of_name l.plan name) (region_end l)
