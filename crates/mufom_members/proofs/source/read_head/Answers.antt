use Rattle.std.proofs.Common.{sym, subst}
use Rattle.mufom_members.specs.declared.members.MembersStop.{MembersStop}
use Rattle.mufom_members.specs.Results.{SaysNothing}
use Rattle.mufom_members.proofs.source.read_head.Goals as goal

pub returns-in-Err-clause-failed : goal.returns-in-Err-clause-failed
returns-in-Err-clause-failed g c = subst (λ (s : MembersStop). SaysNothing s) (sym c.in-Err.ensures.failed) tt
