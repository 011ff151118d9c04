use Rattle.std.proofs.Common.{◌≡◌, take, drop}
use Rattle.std.specs.List.{AllByRecursion}
use Rattle.mufom_expr.specs.Tree.{IsInRange}
use Rattle.mufom_expr.specs.Renamed.{renamed_tokens}
use Rattle.mufom_expr.proofs.postfix.rename_all.Given as goal

-- the tokens processed so far are renamed, and the remaining ones are unchanged
abbrev pub invariant-loop-token : goal.invariant-loop-token
invariant-loop-token g l = (take l.token-index l.token-items ≡ renamed_tokens (g.M.VarMap.meaning l.map) (take l.token-index l.fn.tokens.items))
    × (drop l.token-index l.token-items ≡ drop l.token-index l.fn.tokens.items)
    × AllByRecursion IsInRange (take l.token-index l.token-items)
