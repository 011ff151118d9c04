-- The rest of a module, with marks for what is left.
use Rattle.std.specs.Prelude.{◌≡◌, ℕ, List, [], ◌∷◌}
use Rattle.mufom_module.specs.declared.module.Parts.{Parts}
use Rattle.mufom_prune.specs.declared.pruning.Pruned.{Pruned}
use Rattle.mufom_prune.specs.Pruned.{IsPrunedFor, remains}

-- The module is what remains for the publics with these names, if the sections of these other names always stay. The marks are those of the sections
-- and publics that remain.
pub record IsPrunedWithMarksFor (left : Pruned) (m : Parts) (names stays : List (List ℕ)) : Type 0 where
  pub pruned : IsPrunedFor left.«module» m names stays
  pub sections : left.sections.items ≡ (remains m pruned.marks).sections
  pub publics : left.publics.items ≡ (remains m pruned.marks).publics

-- the same for the name of one public
abbrev pub IsPrunedWithMarks : Pruned → Parts → List ℕ → Type 0
IsPrunedWithMarks left m keep = IsPrunedWithMarksFor left m (keep ∷ []) []
