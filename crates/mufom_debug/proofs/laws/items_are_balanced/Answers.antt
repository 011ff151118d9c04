use Rattle.mufom_debug.proofs.Balance.{items_balanced}
use Rattle.mufom_debug.proofs.laws.items_are_balanced.Goals as goal

pub returns : goal.returns
returns c = items_balanced
