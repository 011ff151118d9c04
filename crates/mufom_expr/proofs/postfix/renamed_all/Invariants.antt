use Rattle.std.proofs.Common.{◌≡◌, take}
use Rattle.std.specs.List.{AllByRecursion}
use Rattle.mufom_expr.specs.Tree.{IsInRange}
use Rattle.mufom_expr.specs.Renamed.{renamed_tokens}
use Rattle.mufom_expr.proofs.postfix.renamed_all.Given as goal

-- the tokens so far are those that were processed, renamed
abbrev pub invariant-loop-token : goal.invariant-loop-token
invariant-loop-token g l = (l.all.items ≡ renamed_tokens (g.M.VarMap.meaning l.map) (take l.token-index l.tokens)) × AllByRecursion IsInRange l.all.items
