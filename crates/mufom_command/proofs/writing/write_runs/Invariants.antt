use Rattle.std.proofs.Common.{flat_map, take}
use Rattle.mufom_host.specs.Spans.{AfterWrites}
use Rattle.mufom_command.specs.TextLines.{run_lines}
use Rattle.mufom_command.proofs.writing.write_runs.Given as goal

abbrev pub invariant-loop-run : goal.invariant-loop-run
invariant-loop-run g l =
    AfterWrites (g.K.World.meaning l.fn.sink) (g.K.World.meaning l.sink) (g.K.World.faults l.fn.sink) (g.K.World.faults l.sink)
    (flat_map run_lines (take l.run-index l.runs))
