use Rattle.std.proofs.Common.{arith}
use Rattle.mufom_numbers.proofs.ShortestLaws.{shortest_number-spells, shortest_number-shortest}
use Rattle.mufom_numbers.proofs.spelling.number_spelling.Goals as goal

pub returns-clause-spells : goal.returns-clause-spells
returns-clause-spells c = rw c.shortest.ensures (shortest_number-spells c.args.value (omega (arith, c.ranges.value)))

pub returns-clause-shortest : goal.returns-clause-shortest
returns-clause-shortest c = rw c.shortest.ensures (shortest_number-shortest c.args.value (omega (arith, c.ranges.value)))
