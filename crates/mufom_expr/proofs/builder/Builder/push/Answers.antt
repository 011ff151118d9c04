use Rattle.std.proofs.Common.{rules, arith, ◌≡◌, ◌++◌, ◌∷◌, [], length-append}
use Rattle.mufom_expr.proofs.TermsLemmas.{in_range-push}
use Rattle.mufom_expr.proofs.Leaves.{leaves-push}
use Rattle.mufom_expr.proofs.builder.Builder.push.Goals as goal

pub invariant_of-self-2 : goal.invariant_of-self-2
invariant_of-self-2 c =
    let items : c.push.new.self.items ≡ c.self.inside.tokens.items ++ c.args.token ∷ [] = search rules in
    rw (items, c.operands-wanted.ensures.count) (
      leaves-push c.self.inside.tokens.items c.args.token c.self.inside.terms c.self.invariant.0
          (rw (← c.operands-wanted.ensures.count) c.if-self-wanted.false),
      omega (arith, length-append c.self.inside.tokens.items (c.args.token ∷ []), c.self.invariant.1),
      omega (arith, length-append c.self.inside.tokens.items (c.args.token ∷ []), c.len.ensures, c.if-len-ge-MAX_TOKENS.false),
      in_range-push c.self.inside.tokens.items c.args.token c.self.invariant.3 c.operands-wanted.ensures.range,
    )
