use Rattle.mufom_image_values.specs.Evaluated.{AreRight}
use Rattle.mufom_image_values.proofs.Settled.{HaveSettled}
use Rattle.mufom_image_values.proofs.values.PlacedModule.evaluate_in_rounds.Given as goal

-- what was evaluated is right, and the publics of chains shorter than the rounds so far are evaluated
abbrev pub invariant-loop-round : goal.invariant-loop-round
invariant-loop-round l = AreRight l.self l.values.items × HaveSettled l.self l.values.items l._round
