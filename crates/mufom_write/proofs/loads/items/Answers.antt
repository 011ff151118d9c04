use Rattle.std.proofs.Common.{ℕ, List, ◌+◌, drop}
use Rattle.mufom_loads.specs.declared.load.Item.{Item}
use Rattle.mufom_module.specs.Written.{shortest, each_from, item}
use Rattle.mufom_write.proofs.Loops.{each_next, leads-step, leads-stop}
use Rattle.mufom_write.proofs.loads.items.Goals as goal

pub loop-place-preserved : goal.loop-place-preserved
loop-place-preserved g c =
    let write : ℕ → Item → List ℕ = λ _. item shortest in
    let i = c.loop-place.place in
    let all = c.args.items.now in
    let x = c.index-items-place.result in
    let next = each_next write i all i x x c.loop-place-test.true c.index-items-place.is in
    leads-step g.K.Output.takes g.met.K.Output.joins _ _ _ (write i x) (each_from (i + 1) write (drop (i + 1) all)) _ _ next c.loop-place.invariant
    c.in_ok-item.ensures

pub returns-in_err-item : goal.returns-in_err-item
returns-in_err-item g c =
    let write : ℕ → Item → List ℕ = λ _. item shortest in
    let i = c.loop-place.place in
    let all = c.args.items.now in
    let x = c.index-items-place.result in
    let next = each_next write i all i x x c.loop-place-test.true c.index-items-place.is in
    leads-stop g.K.Output.takes g.met.K.Output.stops _ _ _ (write i x) (each_from (i + 1) write (drop (i + 1) all)) _ _ _ _ next
    c.loop-place.invariant c.in_err-item.ensures c.from_residual.ensures.0
