use Rattle.std.proofs.Common.{◌≤◌, ◌^◌, length, reverse}
use Rattle.mufom_expr.specs.Terms.{the_term}
use Rattle.mufom_expr.specs.Value.{value_at}
use Rattle.mufom_expr.specs.ValueStack.{AreResidues}
use Rattle.mufom_expr.proofs.Running.{IsRunning}
use Rattle.mufom_expr.proofs.postfix.stack_value.Given as goal

-- the values are those of the trees on the stack, and there is room for one more
abbrev pub invariant-loop-token : goal.invariant-loop-token
invariant-loop-token g l = IsRunning (value_at (2 ^ l.width) (g.E.Env.meaning l.env)) l.tokens (the_term l.tokens) l.token-index (reverse l.stack.items)
    × (length l.stack.items ≤ l.token-index)
    × AreResidues (2 ^ l.width) (reverse l.stack.items)
