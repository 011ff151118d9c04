use Rattle.std.proofs.Common.{ℕ, List, ◌+◌, drop, get_or, refl}
use Rattle.mufom_expr.specs.declared.token.Token.{Token}
use Rattle.mufom_expr.specs.declared.token.Token.TheVariants.{Number}
use Rattle.mufom_module.specs.Written.{shortest, each_from, token}
use Rattle.mufom_write.proofs.Loops.{each_next, leads-step}
use Rattle.mufom_write.proofs.fields.expression.Goals as goal

pub loop-next-preserved : goal.loop-next-preserved
loop-next-preserved g c =
    let write : ℕ → Token → List ℕ = λ _. token shortest in
    let i = c.loop-next.next-index in
    let all = c.tokens-tokens.result.now in
    let x = get_or all i (Number 0) in
    let next = each_next write i all i (Number 0) x c.loop-next-test.true refl in
    leads-step g.K.Output.takes g.met.K.Output.joins _ _ _ (write i x) (each_from (i + 1) write (drop (i + 1) all)) _ _ next c.loop-next.invariant
    c.in_ok-token.ensures
