use Rattle.mufom_numbers.specs.Spelling.{shortest_number}
use Rattle.mufom_numbers.proofs.SpellingLaws.{number_at-spelling}
use Rattle.mufom_numbers.proofs.ShortestLaws.{shortest_number-spells}
use Rattle.mufom_numbers.proofs.laws.shortest_spellings_are_read.Goals as goal

pub returns-clause-number : goal.returns-clause-number
returns-clause-number c = λ n rest fits. number_at-spelling n (shortest_number n) rest (shortest_number-spells n fits)
