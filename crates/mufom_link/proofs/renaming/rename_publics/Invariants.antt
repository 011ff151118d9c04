use Rattle.mufom_link.specs.Renaming.{renaming_of, renamed_public}
use Rattle.mufom_link.proofs.LoopLaws.{AreChanged}
use Rattle.mufom_link.proofs.renaming.rename_publics.Given as goal

abbrev pub invariant-loop-public : goal.invariant-loop-public
invariant-loop-public l = AreChanged (renamed_public (renaming_of l.site)) l.fn.publics.items l.public-items l.public-index
