use Rattle.mufom_expr.proofs.ValueLaws.{value_small, none-lost, lost-none}
use Rattle.mufom_expr.proofs.laws.values_are_residues.Goals as goal

pub returns-clause-residue : goal.returns-clause-residue
returns-clause-residue c = λ w env t low. value_small w low env t

pub returns-clause-none : goal.returns-clause-none
returns-clause-none c = λ m env t. (none-lost m env t, lost-none m env t)
