use Rattle.std.proofs.Common.{◌∷◌, []}
use Rattle.mufom_select.specs.Choice.{choice}
use Rattle.mufom_select.specs.Underway.{IsUnderway}
use Rattle.mufom_select.proofs.choosing.choose_all.Given as goal

abbrev pub invariant-loop-turn : goal.invariant-loop-turn
invariant-loop-turn l = IsUnderway (l.roots ∷ []) l.members l.turn (choice l.marks l.order)
