use Rattle.mufom_build.proofs.NextBytes.{some_is_end}
use Rattle.mufom_build.proofs.ahead.is_end_ahead.Goals as goal

pub returns-in-Some : goal.returns-in-Some
returns-in-Some c = some_is_end c.in-Some.byte c.in-Some.ensures
