-- The bases that a plan gives to sections and commons. All numbers are exact: nothing overflows here.
--
-- There are two lists. The first has the sections of the modules, which are placed at their own bases or by the lists of the
-- plan's regions; the second has the commons, which have no base and go to the region that takes them. The positions of the commons
-- follow those of the sections.
use Rattle.std.specs.Prelude.{ℕ, ◌+◌, ◌-◌, ◌*◌, ◌/◌, ◌==◌, List, [], ◌∷◌, ◌++◌, length, map, filter, Option, Some, None, is_none, Bool, not, ◌&&◌}
use Rattle.std.specs.Prelude.{◌||◌, if◌then◌else◌, codes}
use Rattle.std.specs.List.{enumerate_from, flat_map, list_any}
use Rattle.std.specs.Str.{bytes_eq}
use Rattle.mufom_sections.specs.declared.section.Section.{Section}
use Rattle.mufom_plan.specs.declared.plan.Region.{Region}
use Rattle.mufom_plan.specs.declared.plan.Plan.{Plan}
use Rattle.mufom_plan.specs.Names.{has_name, listed_names}
use Rattle.mufom_place.specs.declared.placing.Waiting.{Waiting}
use Rattle.mufom_place.specs.declared.placing.Placing.{Placing}
use Rattle.mufom_place.specs.declared.placing.AssignedBase.{AssignedBase}

-- the least multiple of the alignment that is not below the address
abbrev pub aligned_up : ℕ → ℕ → ℕ
aligned_up align address = ((address + (align - 1)) / align) * align

-- a section with its position
abbrev pub Numbered : Type 0
Numbered = ℕ × Section

-- the sections with their positions
abbrev pub numbered : List Section → List Numbered
numbered sections = enumerate_from 0 sections

abbrev pub has_no_base : Section → Bool
has_no_base section = is_none section.base

-- an entry of the lists matches its own name, and a star also matches the names that no list has
abbrev pub stands_for : List (List ℕ) → List ℕ → List ℕ → Bool
stands_for listed entry name = bytes_eq entry name || (bytes_eq entry (codes "*") && not (has_name listed name))

-- some entry of the lists matches the name
abbrev pub is_listed : List (List ℕ) → List ℕ → Bool
is_listed listed name = list_any (λ entry. stands_for listed entry name) listed

-- a section is placed at an entry: the section has no base, and the entry matches its name
abbrev pub goes_to : List (List ℕ) → List ℕ → Numbered → Bool
goes_to listed entry s = has_no_base s.1 && stands_for listed entry s.1.name

abbrev pub waiting : Numbered → Waiting
waiting s = record { section = s.0; align = s.1.align; size = s.1.size }

-- the sections that are placed at an entry, in their order
abbrev pub waiting_among : List (List ℕ) → List Numbered → List ℕ → List Waiting
waiting_among listed sections entry = map waiting (filter (goes_to listed entry) sections)

-- the sections that a region takes, in the order of its list and, for one entry, in the order of the sections
abbrev pub taken_by : Plan → List Section → Region → List Waiting
taken_by plan sections region = flat_map (waiting_among (listed_names plan.regions) (numbered sections)) region.sections

-- the commons with their positions, which follow those of the sections
abbrev pub waiting_commons : List Section → List Section → List Waiting
waiting_commons sections commons = map waiting (enumerate_from (length sections) commons)

-- the commons, if the region takes them
abbrev pub commons_in : Region → List Waiting → List Waiting
commons_in region commons = if region.common then commons else []

-- the contents of a region: the sections that it takes, followed by the commons if it takes them
abbrev pub put_into : Plan → List Section → List Section → Region → List Waiting
put_into plan sections commons region = taken_by plan sections region ++ commons_in region (waiting_commons sections commons)

-- the bases of sections that are placed one after another from an address on, each aligned
abbrev pub packed : ℕ → ℕ → List Waiting → List Placing
packed region address [] = []
packed region address (w ∷ more) = let base = aligned_up w.align address in
    record { section = w.section; region = region; base = base } ∷ packed region (base + w.size) more

-- the bases that the regions of the plan give
abbrev pub placings : Plan → List Section → List Section → List Placing
placings plan sections commons = flat_map (λ r. packed r.0 r.1.base (put_into plan sections commons r.1)) (enumerate_from 0 plan.regions)

-- the second of two, or the first if there is no second
abbrev pub last_of : {A : Type 0} → Option A → Option A → Option A
last_of first (Some second) = Some second
last_of first None = first

-- the base that regions give to the section at a position, which occurs once among them at most
abbrev pub placing_of : List Placing → ℕ → Option Placing
placing_of [] n = None
placing_of (p ∷ more) n = last_of (if p.section == n then Some p else None) (placing_of more n)

-- a section is at its own base, or at the base that a region gives it, or at 0 if no region does
abbrev pub site_with : Option ℕ → Option Placing → AssignedBase
site_with (Some base) placing = record { base = base; region = None }
site_with None (Some placing) = record { base = placing.base; region = Some placing.region }
site_with None None = record { base = 0; region = None }

-- the base of a section or a common, given the bases that regions give
abbrev pub site_by : List Placing → Numbered → AssignedBase
site_by given s = site_with s.1.base (placing_of given s.0)

-- its base by the plan
abbrev pub site_of : Plan → List Section → List Section → Numbered → AssignedBase
site_of plan sections commons s = site_by (placings plan sections commons) s

-- the bases of the sections and after them those of the commons, one for each
abbrev pub bases : Plan → List Section → List Section → List ℕ
bases plan sections commons = map (λ s. (site_of plan sections commons s).base) (numbered (sections ++ commons))
