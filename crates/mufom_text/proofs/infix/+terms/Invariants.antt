use Rattle.std.proofs.Common.{length, ◌+◌, ◌*◌}
use Rattle.mufom_text.proofs.infix.+terms.Given as goal

abbrev pub decreases-last_term : goal.decreases-last_term
decreases-last_term l = 2 * length l.tokens.now

abbrev pub decreases-operands_begin : goal.decreases-operands_begin
decreases-operands_begin l = 2 * length l.before.now + 1
