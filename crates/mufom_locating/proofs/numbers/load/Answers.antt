use Rattle.std.proofs.Common.{◌∙◌}
use Rattle.mufom_locating.specs.Moves.{address_in}
use Rattle.mufom_locating.proofs.NumberLaws.{loaded-there}
use Rattle.mufom_locating.proofs.numbers.load.Goals as goal

pub returns-in-Some : goal.returns-in-Some
returns-in-Some c = λ l is.
    c.moved_to.ensures.address ∙ (λ i. address_in (c.move_at-own.ensures i) (c.start_of.ensures.start i))
    ∙ loaded-there l c.args.numbering.now is c.args.entry.now c.in-Some.listed (c.in-Some.ensures l is)
