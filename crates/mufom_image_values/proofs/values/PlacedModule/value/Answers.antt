use Rattle.std.proofs.Common.{◌∙◌, rules}
use Rattle.mufom_image_values.proofs.DivisionLaws.{value-is}
use Rattle.mufom_image_values.proofs.values.PlacedModule.value.Goals as goal

pub returns : goal.returns
returns c = search rules ∙ value-is c.args.self.now c.requires.placed c.args.values.now c.requires.values c.args.counter c.args.expression.now
