use Rattle.std.proofs.Common.{length, ◌+◌, ◌*◌}
use Rattle.mufom_text.proofs.infix.+form.Given as goal

abbrev pub decreases-infix : goal.decreases-infix
decreases-infix g l = 2 * length l.tokens.now

abbrev pub decreases-over_one : goal.decreases-over_one
decreases-over_one g l = 2 * length l.operand.now + 1

abbrev pub decreases-over_two : goal.decreases-over_two
decreases-over_two g l = 2 * length l.operands.now + 1
