use Rattle.std.proofs.Common.{◌∙◌}
use Rattle.mufom_image_values.proofs.DivisionLaws.{divides-is}
use Rattle.mufom_image_values.proofs.values.PlacedModule.divides_by_zero.Goals as goal

pub returns : goal.returns
returns c = c.divides.ensures ∙ divides-is c.args.self.now c.requires.placed c.args.values.now c.requires.values c.args.counter c.args.expression.now
