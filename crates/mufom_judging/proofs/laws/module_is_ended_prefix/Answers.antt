use Rattle.mufom_judging.proofs.spelled.Prefix.{module_is_ended_prefix}
use Rattle.mufom_judging.proofs.laws.module_is_ended_prefix.Goals as goal

pub returns : goal.returns
returns c = module_is_ended_prefix
