use Rattle.mufom_host.proofs.Modest.{modest}
use Rattle.mufom_host.proofs.laws.modest_calls_never_fail.Goals as goal

pub returns : goal.returns
returns c = modest
