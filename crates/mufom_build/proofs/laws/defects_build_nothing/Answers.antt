use Rattle.mufom_build.proofs.Excluded.{defect_not_built, one_defect}
use Rattle.mufom_build.proofs.laws.defects_build_nothing.Goals as goal

pub returns-clause-nothing : goal.returns-clause-nothing
returns-clause-nothing c = defect_not_built

pub returns-clause-one : goal.returns-clause-one
returns-clause-one c = one_defect
