use Rattle.std.proofs.Common.{◌+◌, ℕ, List, drop, flat_map, subst, take}
use Rattle.mufom_host.specs.World.{MakingGrowsByPrefix}
use Rattle.mufom_titxt.specs.Written.{run_text}
use Rattle.mufom_command.specs.TextLines.{run_lines}
use Rattle.mufom_command.proofs.WritingLaws.{cut-at, written-part}
use Rattle.mufom_command.proofs.writing.write_runs.Goals as goal

pub returns-in-Err : goal.returns-in-Err
returns-in-Err g c =
    let runs = c.args.runs.now in let i = c.loop-run.run-index in let run = c.run-item.result in
    written-part (g.K.World.meaning c.args.sink.now) (g.K.World.meaning c.loop-run.sink) (g.K.World.meaning c.write_run.new.sink)
    (g.K.World.faults c.args.sink.now) (g.K.World.faults c.loop-run.sink) (g.K.World.faults c.write_run.new.sink)
    (flat_map run_lines (take i runs)) (run_lines run) c.loop-run.invariant (flat_map run_lines (drop (i + 1) runs)) (flat_map run_lines runs)
    (cut-at run_lines runs i run run c.loop-run-test.true c.run-item.is) c.in-Err.field-0
    (subst (λ (bytes : List ℕ). MakingGrowsByPrefix (g.K.World.meaning c.loop-run.sink).making (g.K.World.meaning c.write_run.new.sink).making
    (run_text run.address bytes)) c.as_slice.ensures c.in-Err.ensures.bytes)
    c.in-Err.ensures.stays c.in-Err.ensures.cause c.in-Err.ensures.counts
