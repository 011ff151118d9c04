-- Laws about modules without debug items.
use Rattle.std.specs.Prelude.{◌≡◌, ℕ, Bool, true, false, List}
use Rattle.mufom_module.specs.declared.module.Parts.{Parts}
use Rattle.mufom_module.specs.Defects.{IsValid}
use Rattle.mufom_judging.specs.Judging.{IsModule}
use Rattle.mufom_debug_laws.specs.Without.{without_debug}

-- A module without a defect has none without its debug items.
abbrev pub ModulesStayValid : Type 0
ModulesStayValid = (m : Parts) → IsValid m → IsValid (without_debug m)

-- A file of a module that is read with its debug part is, if the debug part is skipped, a file of the module without its
-- debug items, and of no other. This is the same with and without the forms of GNU binutils.
abbrev pub DebugPartsMayBeSkipped : Type 0
DebugPartsMayBeSkipped = (gnu : Bool) (bytes : List ℕ) (m : Parts) → IsModule (record { debug = true; gnu = gnu }) bytes m
    → IsModule (record { debug = false; gnu = gnu }) bytes (without_debug m)
    × ((other : Parts) → IsModule (record { debug = false; gnu = gnu }) bytes other → other ≡ without_debug m)
