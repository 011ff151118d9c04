use Rattle.std.proofs.Common.{map, reverse}
use Rattle.mufom_expr.specs.Terms.{the_term}
use Rattle.mufom_expr.specs.ExprTree.{tree_of_expr}
use Rattle.mufom_expr.proofs.Running.{IsRunning, some_tree}
use Rattle.mufom_expr.proofs.postfix.Postfix.to_expr.Given as goal

-- the trees on the code's stack are those on the stack of trees
abbrev pub invariant-loop-token : goal.invariant-loop-token
invariant-loop-token l = IsRunning some_tree l.token-items (the_term l.token-items) l.token-index (map tree_of_expr (reverse l.stack.items))
