use Rattle.std.proofs.Common.{arith}
use Rattle.std.proofs.lemmas.Str.Parse.{digit_at}
use Rattle.mufom_archive.proofs.NameLaws.{next_value, front_below}
use Rattle.mufom_archive.proofs.label.decimal.Goals as goal

pub overflow_sub-number : goal.overflow_sub-number
overflow_sub-number c = (digit_at c.args.digits.now c.loop-byte.byte-index c.requires.digits c.loop-byte-test.true).0

pub overflow_mul-number : goal.overflow_mul-number
overflow_mul-number c = omega (arith, c.loop-byte.invariant, front_below c.args.digits.now c.loop-byte.byte-index c.requires.digits c.requires.few)

pub overflow_add-number : goal.overflow_add-number
overflow_add-number c = omega (arith, c.loop-byte.invariant, front_below c.args.digits.now c.loop-byte.byte-index c.requires.digits c.requires.few)

pub loop-byte-preserved : goal.loop-byte-preserved
loop-byte-preserved c = next_value c.args.digits.now c.loop-byte.byte-index c.loop-byte.number c.requires.digits c.loop-byte-test.true c.loop-byte.invariant

pub returns-clause-small : goal.returns-clause-small
returns-clause-small c = omega (arith, c.loop-byte.invariant, front_below c.args.digits.now c.loop-byte.byte-index c.requires.digits c.requires.few)
