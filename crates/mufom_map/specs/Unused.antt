-- The entries of a plan's lists that place no section. A misspelled name is found among them.
use Rattle.std.specs.Prelude.{ℕ, List, ◌&&◌, not, Bool, filter, codes}
use Rattle.std.specs.List.{list_any}
use Rattle.std.specs.Str.{bytes_eq}
use Rattle.mufom_sections.specs.declared.section.Section.{Section}
use Rattle.mufom_plan.specs.declared.plan.Region.{Region}
use Rattle.mufom_plan.specs.Names.{has_name}
use Rattle.mufom_place.specs.Bases.{goes_to, has_no_base, numbered}

-- the entry that matches the names that no list has
abbrev pub is_star : List ℕ → Bool
is_star entry = bytes_eq entry (codes "*")

-- no section without a base of its own is placed at the entry, which is not `*`; `listed` are the entries of all lists
abbrev pub is_unused : (listed : List (List ℕ)) → List Section → List ℕ → Bool
is_unused listed sections entry = not (is_star entry) && not (list_any (goes_to listed entry) (numbered sections))

-- the entries of a region's list that place no section
abbrev pub unused_entries : (listed : List (List ℕ)) → List Section → Region → List (List ℕ)
unused_entries listed sections region = filter (is_unused listed sections) region.sections

-- ---- as the code has it

-- a section has no base of its own, and this name
abbrev pub waits_as : List ℕ → Section → Bool
waits_as entry section = has_no_base section && bytes_eq entry section.name

-- the entry, which is not `*`, is none of these names
abbrev pub is_missing : List (List ℕ) → List ℕ → Bool
is_missing names entry = not (is_star entry) && not (has_name names entry)

-- the entries of a region's list that are none of these names
abbrev pub missing_entries : List (List ℕ) → Region → List (List ℕ)
missing_entries names region = filter (is_missing names) region.sections
