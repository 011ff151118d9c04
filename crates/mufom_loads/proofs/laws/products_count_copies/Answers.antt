use Rattle.mufom_loads.proofs.LengthsLemmas.{lengths_of-item_copies}
use Rattle.mufom_loads.proofs.laws.products_count_copies.Goals as goal

pub returns : goal.returns
returns c = lengths_of-item_copies
