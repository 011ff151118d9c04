-- The walk of one program counter over steps, as the code does it.
use Rattle.std.specs.Prelude.{ℕ, ◌+◌, ◌%◌, ◌==◌, List, [], ◌∷◌, Option, None, option_map, if◌then◌else◌}
use Rattle.mufom_expr.specs.Tree.{Tree}
use Rattle.mufom_loads.specs.declared.load.Item.{Item}
use Rattle.mufom_loads.specs.declared.load.Load.{Load}
use Rattle.mufom_loads.specs.declared.load.Load.TheVariants.{SetSection, SetPc, One, Repeat}
use Rattle.mufom_loads.specs.Lengths.{byte_count, repeated}
use Rattle.mufom_place.specs.Facts.{◌or_else◌}
use Rattle.mufom_meaning.specs.Flat.{Sited}
use Rattle.mufom_meaning.specs.Steps.{Step, counter_step, item_step, item_steps}
use Rattle.mufom_meaning.specs.Values.{Setting, value}
use Rattle.mufom_field_values.specs.Fields.{field_tree, is_at}

-- the counter after an item
abbrev pub after_item : ℕ → Item → Option ℕ → Option ℕ
after_item modulus item counter = option_map (λ at. (at + byte_count item) % modulus) counter

-- the counter of the section after a step
abbrev pub moved : Setting → ℕ → Step → Option ℕ → Option ℕ
moved s section (counter_step site other t) counter = if other == section then value s site counter t else counter
moved s section (item_step site other item) counter = if other == section then after_item s.modulus item counter else counter

-- the expression of a field at the counter, if the counter is at the address
abbrev pub field_here : ℕ → Item → Option ℕ → Option Tree
field_here address item counter = if is_at address counter then field_tree item else None

-- the expression that a step finds at this counter
abbrev pub found : ℕ → ℕ → Step → Option ℕ → Option Tree
found section address (counter_step site other t) counter = None
found section address (item_step site other item) counter = if other == section then field_here address item counter else None

-- the first that steps find, from this counter on
abbrev pub found_from : Setting → ℕ → ℕ → Option ℕ → List Step → Option Tree
found_from s section address counter [] = None
found_from s section address counter (step ∷ more) =
    found section address step counter or_else found_from s section address (moved s section step counter) more

-- the steps of one load, if this section is the current one
abbrev pub load_steps : Sited → Option ℕ → Load → List Step
load_steps site current (SetSection section) = []
load_steps site current (SetPc section t) = counter_step site (site.first_section + section) t ∷ []
load_steps site current (One item) = item_steps site current (item ∷ [])
load_steps site current (Repeat count items) = repeated count (item_steps site current items)
