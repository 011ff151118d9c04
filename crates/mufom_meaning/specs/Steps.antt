-- What the loads of a list of modules do, step by step, and the program counter at each step (IEEE Std 695, load commands).
use Rattle.std.specs.Prelude.{ℕ, ◌+◌, ◌%◌, ◌==◌, List, [], ◌∷◌, ◌++◌, flat_map, Option, Some, None, option_map, slice_get, if◌then◌else◌}
use Rattle.mufom_expr.specs.declared.token.FieldKind.{FieldKind}
use Rattle.mufom_expr.specs.Tree.{Tree}
use Rattle.mufom_loads.specs.declared.load.Item.{Item}
use Rattle.mufom_loads.specs.declared.load.Item.TheVariants.{Literal, Field}
use Rattle.mufom_loads.specs.declared.load.Load.{Load}
use Rattle.mufom_loads.specs.declared.load.Load.TheVariants.{SetSection, SetPc, One, Repeat}
use Rattle.mufom_loads.specs.Lengths.{repeated, byte_count}
use Rattle.mufom_module.specs.declared.module.Parts.{Parts}
use Rattle.mufom_meaning.specs.Flat.{Sited, sited}
use Rattle.mufom_meaning.specs.Values.{Setting, value}

-- a step sets the counter of a section, or loads an item there; the section is given by its flat number
pub data Step : Type 0 where
  counter_step : (site : Sited) → (section : ℕ) → (value : Tree) → Step
  item_step : (site : Sited) → (section : ℕ) → (item : Item) → Step

-- items for the current section, if there is one
abbrev pub item_steps : Sited → Option ℕ → List Item → List Step
item_steps site None items = []
item_steps site (Some section) [] = []
item_steps site (Some section) (item ∷ items) = item_step site (site.first_section + section) item ∷ item_steps site (Some section) items

-- the steps of a module's loads, if this section is the current one
abbrev pub steps_of : Sited → Option ℕ → List Load → List Step
steps_of site current [] = []
steps_of site current (SetSection section ∷ loads) = steps_of site (Some section) loads
steps_of site current (SetPc section value ∷ loads) = counter_step site (site.first_section + section) value ∷ steps_of site current loads
steps_of site current (One item ∷ loads) = item_steps site current (item ∷ []) ++ steps_of site current loads
steps_of site current (Repeat count items ∷ loads) = repeated count (item_steps site current items) ++ steps_of site current loads

-- the steps of all modules, in order; each module begins with no current section
abbrev pub steps : List Parts → List Step
steps ms = flat_map (λ site. steps_of site None site.parts.loads) (sited ms)

-- The program counter of a section after some steps, the latest first: the value to which a step last set it, or the
-- section's base if no step did, plus the number of bytes loaded into the section since. That value is computed with the
-- counter before the step. After a value that is None, the counter is None too.
unfoldable pub counter : Setting → List Step → ℕ → Option ℕ
counter s [] section = option_map (λ base. base % s.modulus) (slice_get s.bases section)
counter s (counter_step site other t ∷ earlier) section =
    if other == section then value s site (counter s earlier section) t else counter s earlier section
counter s (item_step site other item ∷ earlier) section =
    if other == section then option_map (λ pc. (pc + byte_count item) % s.modulus) (counter s earlier section) else counter s earlier section

-- what a step means at its counter
pub data StepReading : Type 0 where
  counter_reading : (section : ℕ) → (value : Option ℕ) → StepReading
  literal_reading : (section : ℕ) → (at : Option ℕ) → (bytes : List ℕ) → StepReading
  field_reading : (section : ℕ) → (at : Option ℕ) → (kind : FieldKind) → (size : ℕ) → (value : Option ℕ) → StepReading

-- what an item means at a counter
abbrev pub item_reading : Setting → Sited → ℕ → Option ℕ → Item → StepReading
item_reading s site section at (Literal bytes) = literal_reading section at bytes
item_reading s site section at (Field kind size t) = field_reading section at kind size (value s site at t)

-- what a step means after the steps before it, the latest first
abbrev pub step_reading : Setting → List Step → Step → StepReading
step_reading s earlier (counter_step site section t) = counter_reading section (value s site (counter s earlier section) t)
step_reading s earlier (item_step site section item) = item_reading s site section (counter s earlier section) item

-- what steps mean after those before them
abbrev pub readings_after : Setting → List Step → List Step → List StepReading
readings_after s earlier [] = []
readings_after s earlier (step ∷ more) = step_reading s earlier step ∷ readings_after s (step ∷ earlier) more

-- what all steps mean
abbrev pub step_readings : Setting → List Step → List StepReading
step_readings s all = readings_after s [] all
