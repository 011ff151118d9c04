use Rattle.std.proofs.Common.{arith}
use Rattle.mufom_make.proofs.ListLaws.{linkable}
use Rattle.mufom_make.proofs.NoFactLaws.{all-locate, all-located}
use Rattle.mufom_make.proofs.laws.generated_modules_are_located.Goals as goal

pub returns-clause-linked : goal.returns-clause-linked
returns-clause-linked c count few = linkable count count 0 (omega (arith, few))

pub returns-clause-located : goal.returns-clause-located
returns-clause-located c count some few = all-locate count some few

pub returns-clause-location : goal.returns-clause-location
returns-clause-location c count some few = all-located count some few
