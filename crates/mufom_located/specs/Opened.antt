-- The loads of a section, some of which may have been appended already.
use Rattle.std.specs.Prelude.{ℕ, List, [], ◌∷◌, Bool, true, false}
use Rattle.mufom_loads.specs.declared.load.Load.{Load}
use Rattle.mufom_meaning.specs.Absolute.{with_section}

-- the loads; if the section is not the current one yet and there are any, a load that makes it the current one comes first
abbrev pub opened : Bool → ℕ → List Load → List Load
opened true section loads = loads
opened false section loads = with_section section loads

-- there is a load, so the section is the current one afterwards
abbrev pub opens : List Load → Bool
opens [] = false
opens (load ∷ loads) = true
