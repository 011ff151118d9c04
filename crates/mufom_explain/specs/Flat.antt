-- A flat list of modules, and names, as the code has them.
use Rattle.std.specs.Prelude.{ℕ, List, map}
use Rattle.mufom_module.specs.declared.module.Parts.{Parts}
use Rattle.mufom_origins.specs.Origins.{FileModule}
use Rattle.mufom_explain.specs.declared.modules.FlatModule.{FlatModule}
use Rattle.mufom_explain.specs.declared.wanted.Wanted.{Wanted}

abbrev pub file_module : FlatModule → FileModule
file_module m = (m.place, m.parts.now)

abbrev pub flat_of : List FlatModule → List FileModule
flat_of modules = map file_module modules

-- the modules, without their places
abbrev pub parts_of : List FlatModule → List Parts
parts_of modules = map (λ (m : FlatModule). m.parts.now) modules

-- the names that are looked for
abbrev pub wanted_names : Wanted → List (List ℕ)
wanted_names wanted = map (λ name. name.now) wanted.names.items
