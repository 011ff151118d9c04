use Rattle.mufom_build.proofs.NextBytes.{none_is_byte, some_is_byte}
use Rattle.mufom_build.proofs.ahead.is_ahead.Goals as goal

pub returns-in-None : goal.returns-in-None
returns-in-None c = none_is_byte c.args.byte c.requires c.in-None.ensures

pub returns-in-Some : goal.returns-in-Some
returns-in-Some c = some_is_byte c.in-Some.next c.args.byte c.requires c.in-Some.ensures
