use Rattle.mufom_image_values.specs.Evaluated.{AreRight}
use Rattle.mufom_image_values.proofs.values.PlacedModule.evaluate_in_order.Given as goal

-- what was evaluated is right
abbrev pub invariant-loop-position : goal.invariant-loop-position
invariant-loop-position l = AreRight l.self l.values.items
