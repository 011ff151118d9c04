use Rattle.mufom_select.specs.Choice.{choice}
use Rattle.mufom_prune.specs.Underway.{IsUnderway}
use Rattle.mufom_prune.proofs.reach.follow.Given as goal

abbrev pub invariant-loop-turn : goal.invariant-loop-turn
invariant-loop-turn l = IsUnderway l.needs l.roots l.turn (choice l.marks l.order)
