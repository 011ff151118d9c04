use Rattle.std.proofs.Common.{take}
use Rattle.mufom_text.specs.Words.{each}
use Rattle.mufom_map.specs.MapText.{module_line}
use Rattle.mufom_origins.specs.Words.{all_files}
use Rattle.mufom_map.proofs.lines.module_lines.Given as goal

abbrev pub invariant-loop-position : goal.invariant-loop-position
invariant-loop-position g l = g.K.Output.takes l.fn.out l.out (each (module_line (all_files l.names)) (take l.position l.origins))
