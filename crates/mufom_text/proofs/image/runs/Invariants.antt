use Rattle.std.proofs.Common.{take, flat_map}
use Rattle.mufom_text.specs.Image.{run_text}
use Rattle.mufom_text.proofs.image.runs.Given as goal

abbrev pub invariant-loop-run : goal.invariant-loop-run
invariant-loop-run g l = g.K.Output.takes l.fn.out l.out (flat_map (run_text l.maus) (take l.run-index l.runs))
