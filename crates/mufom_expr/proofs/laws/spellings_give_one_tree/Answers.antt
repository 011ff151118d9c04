use Rattle.mufom_expr.proofs.TokensBack.{one_tree}
use Rattle.mufom_expr.proofs.laws.spellings_give_one_tree.Goals as goal

pub returns-clause-tree : goal.returns-clause-tree
returns-clause-tree c = one_tree
