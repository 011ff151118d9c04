use Rattle.std.proofs.Common.{ℕ, List, ◌+◌, ◌-◌, ◌++◌, drop, replicate, subst, sym}
use Rattle.mufom_meaning.specs.declared.located.Run.{Run}
use Rattle.mufom_write.specs.Raw.{raw_image, runs_from}
use Rattle.mufom_meaning.specs.Runs.{run_end}
use Rattle.mufom_write.specs.Writing.{LeadsTo}
use Rattle.mufom_write.proofs.Loops.{leads-step, leads-stop}
use Rattle.mufom_write.proofs.RunsOfBytes.{rows_next}
use Rattle.mufom_write.proofs.raw.put_runs.Goals as goal

pub loop-place-preserved : goal.loop-place-preserved
loop-place-preserved g c =
    let fill : ℕ = c.args.fill in
    let i : ℕ = c.loop-place.place in
    let runs : List Run = c.args.runs.now in
    let run : Run = c.index-runs-place.result in
    let next = rows_next fill c.loop-place.end runs i run run c.loop-place-test.true c.index-runs-place.is in
    subst (λ (end : ℕ). LeadsTo g.K.Output.takes c.args.out.now c.put_run.new.out (runs_from fill end (drop (i + 1) runs)) (raw_image fill runs))
    (sym c.end-end.ensures)
    (leads-step g.K.Output.takes g.met.K.Output.joins _ _ _ (replicate (run.address - c.loop-place.end) fill
    ++ run.bytes) (runs_from fill (run_end run) (drop (i + 1) runs)) _ _ next
    c.loop-place.invariant c.in_ok-put_run.ensures)

pub returns-in_err-put_run : goal.returns-in_err-put_run
returns-in_err-put_run g c =
    let fill : ℕ = c.args.fill in
    let i : ℕ = c.loop-place.place in
    let runs : List Run = c.args.runs.now in
    let run : Run = c.index-runs-place.result in
    let next = rows_next fill c.loop-place.end runs i run run c.loop-place-test.true c.index-runs-place.is in
    leads-stop g.K.Output.takes g.met.K.Output.stops _ _ _ (replicate (run.address - c.loop-place.end) fill
    ++ run.bytes) (runs_from fill (run_end run) (drop (i + 1) runs)) _ _ _ _ next
    c.loop-place.invariant c.in_err-put_run.ensures c.from_residual.ensures.0
