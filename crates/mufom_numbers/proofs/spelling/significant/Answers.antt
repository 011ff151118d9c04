use Rattle.std.proofs.Common.{arith}
use Rattle.mufom_numbers.proofs.LengthLaws.{significant-count}
use Rattle.mufom_numbers.proofs.spelling.significant.Goals as goal

pub returns-clause-count : goal.returns-clause-count
returns-clause-count c = significant-count c.args.value (omega (arith, c.ranges.value))
