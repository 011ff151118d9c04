use Rattle.std.proofs.Common.{ℕ, List, ◌+◌, drop}
use Rattle.mufom_names.specs.declared.name.Reference.{Reference}
use Rattle.mufom_module.specs.Written.{shortest, each_from, reference}
use Rattle.mufom_write.proofs.Loops.{each_next, leads-step, leads-stop}
use Rattle.mufom_write.proofs.names.references.Goals as goal

pub loop-place-preserved : goal.loop-place-preserved
loop-place-preserved g c =
    let write : ℕ → Reference → List ℕ = reference shortest in
    let i = c.loop-place.place in
    let all = c.args.references.now in
    let x = c.index-references-place.result in
    let next = each_next write i all i x x c.loop-place-test.true c.index-references-place.is in
    leads-step g.K.Output.takes g.met.K.Output.joins _ _ _ (write i x) (each_from (i + 1) write (drop (i + 1) all)) _ _ next c.loop-place.invariant
    c.in_ok-reference.ensures

pub returns-in_err-reference : goal.returns-in_err-reference
returns-in_err-reference g c =
    let write : ℕ → Reference → List ℕ = reference shortest in
    let i = c.loop-place.place in
    let all = c.args.references.now in
    let x = c.index-references-place.result in
    let next = each_next write i all i x x c.loop-place-test.true c.index-references-place.is in
    leads-stop g.K.Output.takes g.met.K.Output.stops _ _ _ (write i x) (each_from (i + 1) write (drop (i + 1) all)) _ _ _ _ next
    c.loop-place.invariant c.in_err-reference.ensures c.from_residual.ensures.0
