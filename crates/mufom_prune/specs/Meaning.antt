-- The meaning of a module without the entries that are not kept.
use Rattle.std.specs.Prelude.{◌≡◌, ℕ, List, [], ◌∷◌, map, filter, get_or, Bool}
use Rattle.mufom_module.specs.declared.module.Parts.{Parts}
use Rattle.mufom_module.specs.Defects.{IsValid}
use Rattle.mufom_meaning.specs.Bases.{Bases}
use Rattle.mufom_meaning.specs.Readings.{readings}
use Rattle.mufom_meaning.specs.Steps.{StepReading, counter_reading, literal_reading, field_reading}
use Rattle.mufom_select.specs.Choice.{is_marked}
use Rattle.mufom_prune.specs.Pruned.{Remains, new_positions, remaining, remains, IsPrunedFor}

-- the bases of the sections that remain, and those of the commons
abbrev pub new_bases : Remains → Bases → Bases
new_bases c bases = record { sections = remaining c.sections bases.sections; commons = bases.commons }

-- the section of a step
abbrev pub section_read : StepReading → ℕ
section_read (counter_reading section value) = section
section_read (literal_reading section at bytes) = section
section_read (field_reading section at kind size value) = section

-- a step with the new position of its section
abbrev pub moved_reading : List ℕ → StepReading → StepReading
moved_reading new (counter_reading section value) = counter_reading (get_or new section 0) value
moved_reading new (literal_reading section at bytes) = literal_reading (get_or new section 0) at bytes
moved_reading new (field_reading section at kind size value) = field_reading (get_or new section 0) at kind size value

-- the steps of the sections that remain, with their new positions
abbrev pub left_readings : List Bool → List StepReading → List StepReading
left_readings sections steps = map (moved_reading (new_positions 0 sections)) (filter (λ step. is_marked sections (section_read step)) steps)

-- M means the same as the part of the module that remains, wherever sections and commons are placed: the sections and publics that remain, the steps
-- of these sections with the new positions, and the start all have the values that they have in the module.
pub record MeansTheRest (M m : Parts) (c : Remains) (bases : Bases) : Type 0 where
  pub sections : (readings (M ∷ []) (new_bases c bases)).sections ≡ remaining c.sections (readings (m ∷ []) bases).sections
  pub publics : (readings (M ∷ []) (new_bases c bases)).publics ≡ remaining c.publics (readings (m ∷ []) bases).publics
  pub steps : (readings (M ∷ []) (new_bases c bases)).steps ≡ left_readings c.sections (readings (m ∷ []) bases).steps
  pub starts : (readings (M ∷ []) (new_bases c bases)).starts ≡ (readings (m ∷ []) bases).starts

-- This holds for the rest of every module without a defect, for all names to keep and all names of sections that always stay.
abbrev pub PrunedMeansTheRest : Type 0
PrunedMeansTheRest = (M m : Parts) (names stays : List (List ℕ)) → IsValid m → (pruned : IsPrunedFor M m names stays) → (bases : Bases)
    → MeansTheRest M m (remains m pruned.marks) bases

-- At most one module is what remains of a module for names to keep and names of sections that always stay.
abbrev pub PrunedIsSingle : Type 0
PrunedIsSingle = (M N m : Parts) (names stays : List (List ℕ)) → IsPrunedFor M m names stays → IsPrunedFor N m names stays → M ≡ N
