use Rattle.std.proofs.Common.{◌≡◌, ◌<◌, ℕ, Some, None}
use Rattle.std.specs.Prelude.{slice_get}
use Rattle.mufom_names.specs.declared.name.Public.{Public}
use Rattle.mufom_meaning.specs.Walk.{public_fact}
use Rattle.mufom_image_values.specs.Evaluated.{setting_of}
use Rattle.mufom_image_values.proofs.MentionLaws.{sit}
use Rattle.mufom_image_values.proofs.values.PlacedModule.first_division.Given as goal

-- no public so far divides by 0 itself
abbrev pub invariant-loop-position : goal.invariant-loop-position
invariant-loop-position l =
    (j : ℕ) → j < l.position → (q : Public) → slice_get l.self.graph.parts.now.names.publics j ≡ Some q
    → public_fact (setting_of l.self) (sit l.self.graph.parts.now q) ≡ None
