use Rattle.std.proofs.Common.{ℕ, List, ◌+◌, drop}
use Rattle.mufom_loads.specs.declared.load.Load.{Load}
use Rattle.mufom_module.specs.Written.{shortest, each_from, load}
use Rattle.mufom_write.proofs.Loops.{each_next, leads-step, leads-stop}
use Rattle.mufom_write.proofs.loads.loads.Goals as goal

pub loop-place-preserved : goal.loop-place-preserved
loop-place-preserved g c =
    let write : ℕ → Load → List ℕ = λ _. load shortest in
    let i = c.loop-place.place in
    let all = c.args.loads.now in
    let x = c.index-loads-place.result in
    let next = each_next write i all i x x c.loop-place-test.true c.index-loads-place.is in
    leads-step g.K.Output.takes g.met.K.Output.joins _ _ _ (write i x) (each_from (i + 1) write (drop (i + 1) all)) _ _ next c.loop-place.invariant
    c.in_ok-load.ensures

pub returns-in_err-load : goal.returns-in_err-load
returns-in_err-load g c =
    let write : ℕ → Load → List ℕ = λ _. load shortest in
    let i = c.loop-place.place in
    let all = c.args.loads.now in
    let x = c.index-loads-place.result in
    let next = each_next write i all i x x c.loop-place-test.true c.index-loads-place.is in
    leads-stop g.K.Output.takes g.met.K.Output.stops _ _ _ (write i x) (each_from (i + 1) write (drop (i + 1) all)) _ _ _ _ next
    c.loop-place.invariant c.in_err-load.ensures c.from_residual.ensures.0
