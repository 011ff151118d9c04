use Rattle.std.proofs.Common.{take, flat_map}
use Rattle.mufom_text.specs.Show.{load_lines}
use Rattle.mufom_text.proofs.loads.loads.Given as goal

abbrev pub invariant-loop-one : goal.invariant-loop-one
invariant-loop-one g l = g.K.Output.takes l.fn.out l.out (flat_map (load_lines l.form) (take l.one-index l.loads))
