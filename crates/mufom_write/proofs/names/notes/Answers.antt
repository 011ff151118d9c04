use Rattle.std.proofs.Common.{ℕ, List, ◌+◌, drop}
use Rattle.mufom_names.specs.declared.name.Note.{Note}
use Rattle.mufom_module.specs.Written.{shortest, each_from, note}
use Rattle.mufom_write.proofs.Loops.{each_next, leads-step, leads-stop}
use Rattle.mufom_write.proofs.names.notes.Goals as goal

pub loop-place-preserved : goal.loop-place-preserved
loop-place-preserved g c =
    let write : ℕ → Note → List ℕ = λ _. note shortest c.args.letter c.args.index in
    let i = c.loop-place.place in
    let all = c.args.notes.now in
    let x = c.index-notes-place.result in
    let next = each_next write i all i x x c.loop-place-test.true c.index-notes-place.is in
    leads-step g.K.Output.takes g.met.K.Output.joins _ _ _ (write i x) (each_from (i + 1) write (drop (i + 1) all)) _ _ next c.loop-place.invariant
    c.in_ok-note.ensures

pub returns-in_err-note : goal.returns-in_err-note
returns-in_err-note g c =
    let write : ℕ → Note → List ℕ = λ _. note shortest c.args.letter c.args.index in
    let i = c.loop-place.place in
    let all = c.args.notes.now in
    let x = c.index-notes-place.result in
    let next = each_next write i all i x x c.loop-place-test.true c.index-notes-place.is in
    leads-stop g.K.Output.takes g.met.K.Output.stops _ _ _ (write i x) (each_from (i + 1) write (drop (i + 1) all)) _ _ _ _ next
    c.loop-place.invariant c.in_err-note.ensures c.from_residual.ensures.0
