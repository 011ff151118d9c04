use Rattle.mufom_image_values.proofs.Settled.{right-values}
use Rattle.mufom_image_values.proofs.values.PlacedModule.public_values.Goals as goal

pub returns : goal.returns
returns c = right-values c.args.self.now c.evaluate_in_rounds.new.values.items c.evaluate_in_rounds.ensures.right c.evaluate_in_rounds.ensures.evaluated
