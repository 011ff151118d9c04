use Rattle.std.proofs.Common.{◌≡◌, ◌<◌, ℕ, Some, false}
use Rattle.std.specs.Prelude.{slice_get}
use Rattle.mufom_names.specs.declared.name.Reference.{Reference}
use Rattle.mufom_image_values.specs.Resolutions.{resolution_of, is_first_common}
use Rattle.mufom_image_values.proofs.resolutions.first_common.Given as goal

-- no reference so far resolves to the first common
abbrev pub invariant-loop-place : goal.invariant-loop-place
invariant-loop-place l = (j : ℕ) → j < l.place → (r : Reference) → slice_get l.module.names.references j ≡ Some r
    → is_first_common (resolution_of l.module r) ≡ false
