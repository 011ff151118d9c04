use Rattle.mufom_meaning.proofs.CallLaws.{are_valid_is_all}
use Rattle.mufom_meaning.proofs.call_laws.are_valid_is_all.Goals as goal

pub returns : goal.returns
returns c = are_valid_is_all
