use Rattle.std.proofs.Common.{arith}
use Rattle.mufom_titxt.proofs.ShapeLaws.{digits_fit}
use Rattle.mufom_titxt.proofs.shape.hex_number.Goals as goal

pub overflow_mul-number : goal.overflow_mul-number
overflow_mul-number c = omega (arith, digits_fit c.loop-byte.number 0 c.loop-byte.byte-index c.loop-byte.invariant.low (omega arith) (omega arith))

pub overflow_add-number : goal.overflow_add-number
overflow_add-number c = omega (
  arith,
  digits_fit c.loop-byte.number c.in-Some.digit c.loop-byte.byte-index c.loop-byte.invariant.low
      c.in-Some.ensures.low (omega arith),
)
