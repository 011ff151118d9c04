use Rattle.std.proofs.Common.{◌≤◌, ◌^◌, length, reverse}
use Rattle.mufom_expr.specs.Terms.{the_term}
use Rattle.mufom_expr.specs.ValueStack.{AreResidues}
use Rattle.mufom_expr.proofs.Divisors.{IsDividing}
use Rattle.mufom_expr.proofs.postfix.has_zero_divisor.Given as goal

-- the values are those of the trees on the stack, `found` says whether one of these divides by 0, and there is room for one more
abbrev pub invariant-loop-token : goal.invariant-loop-token
invariant-loop-token g l = IsDividing (2 ^ l.width) (g.E.Env.meaning l.env) l.tokens (the_term l.tokens) l.token-index (reverse l.stack.items) l.found
    × (length l.stack.items ≤ l.token-index)
    × AreResidues (2 ^ l.width) (reverse l.stack.items)
