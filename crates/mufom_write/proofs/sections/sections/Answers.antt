use Rattle.std.proofs.Common.{ℕ, List, ◌+◌, drop}
use Rattle.mufom_sections.specs.declared.section.Section.{Section}
use Rattle.mufom_module.specs.Written.{shortest, each_from, section}
use Rattle.mufom_write.proofs.Loops.{each_next, leads-step, leads-stop}
use Rattle.mufom_write.proofs.sections.sections.Goals as goal

pub loop-place-preserved : goal.loop-place-preserved
loop-place-preserved g c =
    let write : ℕ → Section → List ℕ = section shortest in
    let i = c.loop-place.place in
    let all = c.args.sections.now in
    let x = c.index-sections-place.result in
    let next = each_next write i all i x x c.loop-place-test.true c.index-sections-place.is in
    leads-step g.K.Output.takes g.met.K.Output.joins _ _ _ (write i x) (each_from (i + 1) write (drop (i + 1) all)) _ _ next c.loop-place.invariant
    c.in_ok-section.ensures

pub returns-in_err-section : goal.returns-in_err-section
returns-in_err-section g c =
    let write : ℕ → Section → List ℕ = section shortest in
    let i = c.loop-place.place in
    let all = c.args.sections.now in
    let x = c.index-sections-place.result in
    let next = each_next write i all i x x c.loop-place-test.true c.index-sections-place.is in
    leads-stop g.K.Output.takes g.met.K.Output.stops _ _ _ (write i x) (each_from (i + 1) write (drop (i + 1) all)) _ _ _ _ next
    c.loop-place.invariant c.in_err-section.ensures c.from_residual.ensures.0
