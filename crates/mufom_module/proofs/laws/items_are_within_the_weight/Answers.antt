use Rattle.mufom_module.proofs.ItemWeights.{items_within_the_weight}
use Rattle.mufom_module.proofs.laws.items_are_within_the_weight.Goals as goal

pub returns : goal.returns
returns c = items_within_the_weight
