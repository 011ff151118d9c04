use Rattle.std.proofs.Common.{take}
use Rattle.mufom_text.specs.Words.{each}
use Rattle.mufom_explain.specs.Flat.{file_module, wanted_names}
use Rattle.mufom_explain.specs.Mentions.{named_line}
use Rattle.mufom_origins.specs.Words.{all_files}
use Rattle.mufom_explain.proofs.mentions.Mentions.module_lines.Given as goal

abbrev pub invariant-loop-position : goal.invariant-loop-position
invariant-loop-position g l = g.K.Output.takes l.fn.out l.out
    (each (λ j m. named_line (all_files l.names) (wanted_names l.self.wanted) j (file_module m)) (take l.position l.self.flat.now))
