use Rattle.std.proofs.Common.{arith}
use Rattle.mufom_image_bytes.proofs.Outside.{all_inside, end_outside}
use Rattle.mufom_image_bytes.proofs.places.first_outside.Goals as goal

pub returns-then-to-start-2 : goal.returns-then-to-start-2
returns-then-to-start-2 c = λ modulus section.
    end_outside modulus section c.args.base c.args.size c.args.count c.args.at
    (omega (arith, c.if-start-from.false)) (omega (arith, c.if-to-start.false)) (omega (arith, c.if-to-start-2.true))

pub returns : goal.returns
returns c = λ modulus section.
    all_inside modulus section c.args.base c.args.size c.args.count c.args.at
    (omega (arith, c.if-start-from.false)) (omega (arith, c.if-to-start-2.false))
