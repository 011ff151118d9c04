-- Laws about explanations.
use Rattle.std.specs.Prelude.{◌≡◌, List}
use Rattle.mufom_module.specs.declared.module.Parts.{Parts}
use Rattle.mufom_refusals.specs.declared.locate.LocateRefusal.{LocateRefusal}
use Rattle.mufom_meaning.specs.StagingLaws.{MeansTheSame}
use Rattle.mufom_explain.specs.Details.{Explained, locate_details}

-- the same context with other modules, in place of which the same one is located
abbrev pub with_modules : Explained → List Parts → Explained
with_modules e ms = record e { modules = ms }

-- An error of locating is explained in the same way for lists of modules that mean the same. So it does not matter whether the list or its link is
-- located.
abbrev pub ExplanationsAreAlike : Type 0
ExplanationsAreAlike =
    (e : Explained) (ms leaves : List Parts) → MeansTheSame ms leaves → (r : LocateRefusal)
    → locate_details (with_modules e ms) r ≡ locate_details (with_modules e leaves) r
