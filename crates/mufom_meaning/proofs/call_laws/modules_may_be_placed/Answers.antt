use Rattle.mufom_meaning.proofs.CallLaws.{modules_may_be_placed}
use Rattle.mufom_meaning.proofs.call_laws.modules_may_be_placed.Goals as goal

pub returns : goal.returns
returns c = modules_may_be_placed
