-- What each reference of a module resolves to.
use Rattle.std.specs.Prelude.{ℕ, ◌==◌, List, [], ◌∷◌, map, Option, Some, None, Bool, true, false, if◌then◌else◌}
use Rattle.std.specs.Str.{bytes_eq}
use Rattle.mufom_names.specs.declared.name.Weak.{Weak}
use Rattle.mufom_names.specs.declared.name.Reference.{Reference}
use Rattle.mufom_names.specs.Names.{names_of}
use Rattle.mufom_module.specs.declared.module.Parts.{Parts}
use Rattle.mufom_meaning.specs.Flat.{distinct, common_names}
use Rattle.mufom_image_values.specs.declared.resolutions.Resolution.{Resolution}
use Rattle.mufom_image_values.specs.declared.resolutions.Resolution.TheVariants as resolutions
use Rattle.mufom_image_values.specs.Names.{place_in}

-- what a reference resolves to if neither a public nor a common has its name
abbrev pub resolution_without : Option Weak → Resolution
resolution_without None = resolutions.Nothing
resolution_without (Some weak) = if weak.size == 0 then resolutions.Default weak.default else resolutions.Nothing

-- what a reference resolves to, by the positions of the public and of the common of its name
abbrev pub resolution_by : Option ℕ → Option ℕ → Option Weak → Resolution
resolution_by (Some n) common weak = resolutions.Public n
resolution_by None (Some n) weak = resolutions.Common n
resolution_by None None weak = resolution_without weak

-- the names of the commons, each once, in the order in which references first request them
abbrev pub common_list : Parts → List (List ℕ)
common_list m = distinct bytes_eq (common_names (m ∷ []))

-- what a reference of the module resolves to
abbrev pub resolution_of : Parts → Reference → Resolution
resolution_of m reference = resolution_by (place_in (names_of m.names.publics) reference.name) (place_in (common_list m) reference.name) reference.weak

-- what each reference of the module resolves to, in order
abbrev pub resolutions_of : Parts → List Resolution
resolutions_of m = map (resolution_of m) m.names.references

-- the reference resolves to nothing
abbrev pub is_nothing : Resolution → Bool
is_nothing (resolutions.Public n) = false
is_nothing (resolutions.Common n) = false
is_nothing (resolutions.Default v) = false
is_nothing resolutions.Nothing = true

-- the reference resolves to the first common
abbrev pub is_first_common : Resolution → Bool
is_first_common (resolutions.Public n) = false
is_first_common (resolutions.Common n) = n == 0
is_first_common (resolutions.Default v) = false
is_first_common resolutions.Nothing = false
