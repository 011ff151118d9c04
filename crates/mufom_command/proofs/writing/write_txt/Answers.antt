use Rattle.std.proofs.Common.{flat_map}
use Rattle.mufom_host.proofs.Composing.{MakingGrowsByPrefix-more}
use Rattle.mufom_titxt.specs.Written.{end_text}
use Rattle.mufom_command.specs.TextLines.{run_lines}
use Rattle.mufom_command.proofs.WritingLaws.{end-written}
use Rattle.mufom_command.proofs.writing.write_txt.Goals as goal

pub returns-in-Err-clause-prefix : goal.returns-in-Err-clause-prefix
returns-in-Err-clause-prefix g c =
    MakingGrowsByPrefix-more (g.K.World.meaning c.args.sink.now).making (g.K.World.meaning c.write_runs.new.sink).making
    (flat_map run_lines c.args.runs.now) end_text c.in-Err.ensures.added

pub returns-clause-prefix : goal.returns-clause-prefix
returns-clause-prefix g c =
    end-written (g.K.World.meaning c.args.sink.now).making (g.K.World.meaning c.write_runs.new.sink).making (g.K.World.meaning c.write_end.new.sink).making
    (flat_map run_lines c.args.runs.now) end_text c.write_end.result c.in_default.ensures.added c.write_end.ensures.bytes
