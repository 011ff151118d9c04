use Rattle.std.proofs.Common.{◌≡◌, ◌<◌, ℕ, Some, false}
use Rattle.std.specs.Prelude.{slice_get}
use Rattle.mufom_names.specs.declared.name.Reference.{Reference}
use Rattle.mufom_image_values.proofs.ResolutionLaws.{is_undefined}
use Rattle.mufom_image_values.proofs.resolutions.first_undefined.Given as goal

-- no reference so far is undefined
abbrev pub invariant-loop-place : goal.invariant-loop-place
invariant-loop-place l = (j : ℕ) → j < l.place → (r : Reference) → slice_get l.module.names.references j ≡ Some r → is_undefined l.module r ≡ false
