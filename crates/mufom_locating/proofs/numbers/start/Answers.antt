use Rattle.std.proofs.Common.{◌∙◌}
use Rattle.mufom_locating.proofs.NumberLaws.{started}
use Rattle.mufom_locating.proofs.numbers.start.Goals as goal

pub returns-in-Some : goal.returns-in-Some
returns-in-Some c = λ l is. c.start_of.ensures.start ∙ started l c.args.numbering.now is c.args.entry.now c.in-Some.listed (c.in-Some.ensures l is)
