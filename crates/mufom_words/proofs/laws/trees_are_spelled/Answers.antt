use Rattle.mufom_words.proofs.TreeLaws.{tree_of-spelling}
use Rattle.mufom_words.proofs.laws.trees_are_spelled.Goals as goal

pub returns : goal.returns
returns c = tree_of-spelling
