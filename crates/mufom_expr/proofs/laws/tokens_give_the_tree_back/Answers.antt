use Rattle.std.proofs.Common.{sym}
use Rattle.mufom_expr.specs.TreeCode.{the_term-tokens_of}
use Rattle.mufom_expr.proofs.TermsLemmas.{tokens_of-the_term}
use Rattle.mufom_expr.proofs.Leaves.{leaves-one}
use Rattle.mufom_expr.proofs.TokensBack.{leaves-tokens_of, finds_enough}
use Rattle.mufom_expr.proofs.laws.tokens_give_the_tree_back.Goals as goal

pub returns-clause-back : goal.returns-clause-back
returns-clause-back c = the_term-tokens_of

pub returns-clause-one : goal.returns-clause-one
returns-clause-one c = leaves-tokens_of

pub returns-clause-enough : goal.returns-clause-enough
returns-clause-enough c = finds_enough

pub returns-clause-tree : goal.returns-clause-tree
returns-clause-tree c = λ tokens e. sym (tokens_of-the_term tokens (leaves-one tokens e))
