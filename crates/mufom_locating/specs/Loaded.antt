-- The loads that put bytes into a section, and marks for sections.
use Rattle.std.specs.Prelude.{ℕ, ◌==◌, ◌&&◌, not, List, Option, Some, None, Bool, false}
use Rattle.std.specs.List.{list_any}
use Rattle.mufom_loads.specs.declared.load.Item.{Item}
use Rattle.mufom_loads.specs.declared.load.Load.{Load}
use Rattle.mufom_loads.specs.declared.load.Load.TheVariants.{SetSection, SetPc, One, Repeat}
use Rattle.mufom_loads.specs.Lengths.{byte_count}
use Rattle.mufom_place.specs.Filling.{marked}

-- one of the items has bytes
abbrev pub have_bytes : List Item → Bool
have_bytes items = list_any (λ item. not (byte_count item == 0)) items

-- a load puts at least one byte into the current section
abbrev pub puts_bytes : Load → Bool
puts_bytes (SetSection section) = false
puts_bytes (SetPc section value) = false
puts_bytes (One item) = not (byte_count item == 0)
puts_bytes (Repeat count items) = not (count == 0) && have_bytes items

-- the marks, with that of a section set, if there is one
abbrev pub marked_at : Option ℕ → List Bool → List Bool
marked_at None marks = marks
marked_at (Some section) marks = marked section marks
