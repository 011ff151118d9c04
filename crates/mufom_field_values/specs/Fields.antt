-- The field that a module loads into a section at an address, once a plan places its sections.
use Rattle.std.specs.Prelude.{ℕ, ◌==◌, ◌&&◌, List, [], ◌∷◌, Bool, false, Option, Some, None, if◌then◌else◌}
use Rattle.mufom_expr.specs.Tree.{Tree}
use Rattle.mufom_loads.specs.declared.load.Item.{Item}
use Rattle.mufom_loads.specs.declared.load.Item.TheVariants.{Literal, Field}
use Rattle.mufom_loads.specs.declared.load.Load.{Load}
use Rattle.mufom_loads.specs.declared.load.Load.TheVariants.{SetPc}
use Rattle.mufom_module.specs.declared.module.Parts.{Parts}
use Rattle.mufom_plan.specs.declared.plan.Plan.{Plan}
use Rattle.mufom_place.specs.Facts.{◌or_else◌}
use Rattle.mufom_meaning.specs.Placed.{planned_bases}
use Rattle.mufom_meaning.specs.Steps.{Step, counter_step, item_step, counter, steps_of}
use Rattle.mufom_meaning.specs.Values.{Setting, setting}
use Rattle.mufom_image_values.specs.Evaluated.{alone}

-- the expression of an item, if it is a field
abbrev pub field_tree : Item → Option Tree
field_tree (Literal bytes) = None
field_tree (Field kind size t) = Some t

-- a program counter is this address
abbrev pub is_at : ℕ → Option ℕ → Bool
is_at address None = false
is_at address (Some at) = at == address

-- the expression of the field that a step loads into the section at the address, after the steps before it, the latest first
abbrev pub field_step : Setting → ℕ → ℕ → List Step → Step → Option Tree
field_step s section address earlier (counter_step site other t) = None
field_step s section address earlier (item_step site other item) =
    if (other == section) && is_at address (counter s earlier section) then field_tree item else None

-- the first such field of some steps, after those before them
abbrev pub first_field : Setting → ℕ → ℕ → List Step → List Step → Option Tree
first_field s section address earlier [] = None
first_field s section address earlier (step ∷ more) =
    field_step s section address earlier step or_else first_field s section address (step ∷ earlier) more

-- a load with the items of another one, and with its own program counter
abbrev pub shown_load : Load → Load → Load
shown_load (SetPc section t) own = SetPc section t
shown_load load own = own

-- the loads with the items of others, one by one
abbrev pub shown_loads : List Load → List Load → List Load
shown_loads [] own = []
shown_loads (load ∷ loads) [] = []
shown_loads (load ∷ loads) (o ∷ own) = shown_load load o ∷ shown_loads loads own

-- The expression, in `own`, of the first field that the module m loads into the section at the address, if there is one. The two have the same loads
-- but for the expressions in them: m is located, and `own` is shown, for instance the module before a plan's symbols are linked with it. Where a value
-- does not fit the field at an address, or divides by zero there, no other item has a byte at this address before it.
abbrev pub field_of : Parts → Parts → Plan → ℕ → ℕ → Option Tree
field_of m own plan section address =
    first_field (setting (m ∷ []) (planned_bases (m ∷ []) plan)) section address [] (steps_of (alone m) None (shown_loads m.loads own.loads))
