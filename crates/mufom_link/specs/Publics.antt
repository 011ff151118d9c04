-- The public names of a list, each with its position, in an index.
use Rattle.std.specs.Prelude.{◌≡◌, ℕ, suc, List, [], ◌∷◌, is_some, Result, Ok, Err, if◌then◌else◌}
use Rattle.mufom_names.specs.Index.{Entry, position_of, with_entry}
use Rattle.mufom_refusals.specs.declared.link.LinkRefusal.{LinkRefusal}
use Rattle.mufom_refusals.specs.declared.link.LinkRefusal.TheVariants.{Mismatch, Duplicate, DuplicateStart, NoMemory}

-- the index once names are added, the first of them at position n; or the first name that the index already had
abbrev pub indexed : List Entry → ℕ → List (List ℕ) → Result (List Entry) (List ℕ)
indexed entries n [] = Ok entries
indexed entries n (name ∷ names) = if is_some (position_of entries name) then Err name else indexed (with_entry entries name n) (suc n) names

-- all names are new, and this is the index with them
abbrev pub IsIndexed : List Entry → ℕ → List (List ℕ) → List Entry → Type 0
IsIndexed entries n names after = indexed entries n names ≡ Ok after

-- the error is out of memory, or Duplicate with the first name that is not new
abbrev pub IsRefusedName : List Entry → ℕ → List (List ℕ) → LinkRefusal → Type 0
IsRefusedName entries n names NoMemory = Unit {0}
IsRefusedName entries n names (Duplicate name) = indexed entries n names ≡ Err name
IsRefusedName entries n names (Mismatch first other) = ⊥
IsRefusedName entries n names DuplicateStart = ⊥
