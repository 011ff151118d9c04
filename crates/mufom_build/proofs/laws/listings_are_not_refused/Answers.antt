use Rattle.mufom_build.proofs.Excluded.{built_not_refused, defect_not_refused}
use Rattle.mufom_build.proofs.laws.listings_are_not_refused.Goals as goal

pub returns-clause-built : goal.returns-clause-built
returns-clause-built c = built_not_refused

pub returns-clause-defect : goal.returns-clause-defect
returns-clause-defect c = defect_not_refused
