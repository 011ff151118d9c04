use Rattle.std.proofs.Common.{ap, sym, subst, ◌∙◌, arith, length, Option}
use Rattle.mufom_read.specs.declared.refusal.ReadStop.{ReadStop}
use Rattle.mufom_read.specs.declared.state.State.{State}
use Rattle.mufom_judging.specs.Judging.{IsPending}
use Rattle.mufom_read.specs.Reader.{Knows}
use Rattle.mufom_read.proofs.feeding.Chunks.{pending-is}
use Rattle.mufom_read.proofs.feeding.Short.{few-pending}
use Rattle.mufom_read.proofs.reader.Reader.pending.Goals as goal

pub returns-clause-exact : goal.returns-clause-exact
returns-clause-exact c = λ stream read none.
    let it = c.args.self.now in
    subst (λ n. IsPending it.options stream n) (sym (ap length c.as_slice.ensures.value ∙ ap (λ (s : State). length s.rest.items) c.self.view_is))
    (pending-is it stream (subst (λ (s : Option ReadStop). Knows it stream s) none read.1))

pub returns-clause-small : goal.returns-clause-small
returns-clause-small c = λ none.
    let it = c.self.inside.state in
    let stream = c.self.invariant.0 in
    let has = c.self.invariant.1 in
    let going = ap (λ (s : State). s.stop) c.self.view_is ∙ none in
    omega (arith, ap length c.as_slice.ensures.value, few-pending it stream has.0 (subst (λ (o : Option ReadStop). Knows it stream o) going has.1))
