use Rattle.std.proofs.Common.{take, flat_map, codes, ◌++◌}
use Rattle.mufom_text.specs.Words.{line}
use Rattle.mufom_text.specs.Show.{note_text}
use Rattle.mufom_text.proofs.names.note_lines.Given as goal

abbrev pub invariant-loop-note : goal.invariant-loop-note
invariant-loop-note g l = g.K.Output.takes l.fn.out l.out (flat_map (λ note. line (codes "note" ++ note_text note)) (take l.note-index l.notes))
