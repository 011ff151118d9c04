use Rattle.std.proofs.Common.{take}
use Rattle.mufom_text.specs.Words.{each}
use Rattle.mufom_explain.specs.Flat.{file_module}
use Rattle.mufom_explain.specs.Lines.{asking_line}
use Rattle.mufom_origins.specs.Words.{all_files}
use Rattle.mufom_explain.proofs.entries.asking_lines.Given as goal

abbrev pub invariant-loop-position : goal.invariant-loop-position
invariant-loop-position g l = g.K.Output.takes l.fn.out l.out (each (λ j m. asking_line (all_files l.names) l.name j (file_module m)) (take l.position l.flat))
