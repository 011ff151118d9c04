use Rattle.std.proofs.Common.{take}
use Rattle.mufom_text.specs.Words.{each}
use Rattle.mufom_text.specs.Show.{section_line}
use Rattle.mufom_text.proofs.sections.section_lines.Given as goal

abbrev pub invariant-loop-position : goal.invariant-loop-position
invariant-loop-position g l = g.K.Output.takes l.fn.out l.out (each section_line (take l.position l.sections))
