use Rattle.std.proofs.Common.{◌∙◌}
use Rattle.mufom_locating.proofs.NumberLaws.{ended}
use Rattle.mufom_locating.proofs.numbers.end.Goals as goal

pub returns-in-Some : goal.returns-in-Some
returns-in-Some c = λ l is. c.end_of.ensures ∙ ended l c.args.numbering.now is c.args.entry.now c.in-Some.listed (c.in-Some.ensures l is)
