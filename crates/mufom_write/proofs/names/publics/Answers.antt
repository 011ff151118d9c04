use Rattle.std.proofs.Common.{ℕ, List, ◌+◌, drop}
use Rattle.mufom_names.specs.declared.name.Public.{Public}
use Rattle.mufom_module.specs.Written.{shortest, each_from, public}
use Rattle.mufom_write.proofs.Loops.{each_next, leads-step, leads-stop}
use Rattle.mufom_write.proofs.names.publics.Goals as goal

pub loop-place-preserved : goal.loop-place-preserved
loop-place-preserved g c =
    let write : ℕ → Public → List ℕ = public shortest in
    let i = c.loop-place.place in
    let all = c.args.publics.now in
    let x = c.index-publics-place.result in
    let next = each_next write i all i x x c.loop-place-test.true c.index-publics-place.is in
    leads-step g.K.Output.takes g.met.K.Output.joins _ _ _ (write i x) (each_from (i + 1) write (drop (i + 1) all)) _ _ next c.loop-place.invariant
    c.in_ok-public.ensures

pub returns-in_err-public : goal.returns-in_err-public
returns-in_err-public g c =
    let write : ℕ → Public → List ℕ = public shortest in
    let i = c.loop-place.place in
    let all = c.args.publics.now in
    let x = c.index-publics-place.result in
    let next = each_next write i all i x x c.loop-place-test.true c.index-publics-place.is in
    leads-stop g.K.Output.takes g.met.K.Output.stops _ _ _ (write i x) (each_from (i + 1) write (drop (i + 1) all)) _ _ _ _ next
    c.loop-place.invariant c.in_err-public.ensures c.from_residual.ensures.0
