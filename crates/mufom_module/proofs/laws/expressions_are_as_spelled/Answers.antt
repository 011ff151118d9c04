use Rattle.mufom_module.proofs.SpelledLaws.{term-spelling}
use Rattle.mufom_module.proofs.laws.expressions_are_as_spelled.Goals as goal

pub returns : goal.returns
returns c = term-spelling
