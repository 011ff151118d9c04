-- Indexes of names: the position of a name, and the names of the commons in the order in which references request them.
use Rattle.std.specs.Prelude.{◌≡◌, ℕ, Bool, List, [], ◌∷◌, ◌++◌, Option, is_none, ◌&&◌, if◌then◌else◌}
use Rattle.mufom_names.specs.declared.name.Reference.{Reference}
use Rattle.mufom_names.specs.Index.{Entry, position_of, numbered_from}
use Rattle.mufom_plan.specs.Names.{has_name}
use Rattle.mufom_meaning.specs.Flat.{is_common}

-- the position at which the name first occurs
abbrev pub place_in : List (List ℕ) → List ℕ → Option ℕ
place_in names name = position_of (numbered_from 0 names) name

-- the index finds the first position of each name
abbrev pub FindsFirst : List Entry → List (List ℕ) → Type 0
FindsFirst entries names = (name : List ℕ) → position_of entries name ≡ place_in names name

-- the names with one more, unless it is already there
abbrev pub with_name : List (List ℕ) → List ℕ → List (List ℕ)
with_name names name = if has_name names name then names else names ++ name ∷ []

-- a reference requests a common: it is weak, its size is not 0, and no public of the index has its name
abbrev pub asks : List Entry → Reference → Bool
asks publics reference = is_common reference && is_none (position_of publics reference.name)

-- the names of the commons with that of one more reference
abbrev pub with_asked : List Entry → List (List ℕ) → Reference → List (List ℕ)
with_asked publics names reference = if asks publics reference then with_name names reference.name else names

-- the names of the commons with those of some more references
abbrev pub asked_after : List Entry → List (List ℕ) → List Reference → List (List ℕ)
asked_after publics names [] = names
asked_after publics names (reference ∷ references) = asked_after publics (with_asked publics names reference) references
