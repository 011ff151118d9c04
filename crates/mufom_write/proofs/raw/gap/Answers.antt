use Rattle.std.proofs.Common.{ℕ, ◌≡◌, ◌+◌, ◌-◌, ◌++◌, ◌∙◌, ap, arith, replicate, subst, sym, take, List}
use Rattle.std.proofs.lemmas.List.{replicate-append-replicate, take-replicate}
use Rattle.mufom_write.proofs.Loops.{leads-step, leads-stop}
use Rattle.mufom_write.proofs.raw.gap.Goals as goal

pub loop-left-preserved : goal.loop-left-preserved
loop-left-preserved g c =
    let left : ℕ = c.loop-left.left in
    let fill : ℕ = c.args.fill in
    let sum : 256 + (left - 256) ≡ left = omega (arith, c.loop-left-test.true) in
    let split : replicate left fill ≡ replicate 256 fill ++ replicate (left - 256) fill = ap (λ (n : ℕ). replicate n fill) (sym sum)
    ∙ sym (replicate-append-replicate 256 (left - 256) fill) in
    leads-step g.K.Output.takes g.met.K.Output.joins _ _ _ (replicate 256 fill) (replicate (left - 256) fill) _ _ split c.loop-left.invariant
    c.in_ok-put.ensures

pub returns-in_err-put : goal.returns-in_err-put
returns-in_err-put g c =
    let left : ℕ = c.loop-left.left in
    let fill : ℕ = c.args.fill in
    let sum : 256 + (left - 256) ≡ left = omega (arith, c.loop-left-test.true) in
    let split : replicate left fill ≡ replicate 256 fill ++ replicate (left - 256) fill = ap (λ (n : ℕ). replicate n fill) (sym sum)
    ∙ sym (replicate-append-replicate 256 (left - 256) fill) in
    leads-stop g.K.Output.takes g.met.K.Output.stops _ _ _ (replicate 256 fill) (replicate (left - 256) fill) _ _ _ _ split c.loop-left.invariant
    c.in_err-put.ensures c.from_residual.ensures.0

pub returns : goal.returns
returns g c =
    let left : ℕ = c.loop-left.left in
    let same : take left (replicate 256 c.args.fill) ≡ replicate left c.args.fill =
    take-replicate left 256 c.args.fill (omega (arith, c.loop-left-test.false)) in
    c.loop-left.invariant.leads _ _ (subst (λ (bytes : List ℕ). g.K.Output.takes c.loop-left.out c.put-2.new.self bytes c.put-2.result) same c.put-2.ensures)
