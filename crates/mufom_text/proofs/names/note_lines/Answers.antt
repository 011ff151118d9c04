use Rattle.std.proofs.Common.{codes, ◌++◌}
use Rattle.mufom_text.specs.Words.{line}
use Rattle.mufom_text.specs.Show.{note_text}
use Rattle.mufom_text.proofs.Loops.{flat-step}
use Rattle.mufom_text.proofs.names.note_lines.Goals as goal

pub loop-note-preserved : goal.loop-note-preserved
loop-note-preserved g c = flat-step g.K.Output.takes g.met.K.Output.joins (λ note. line (codes "note" ++ note_text note)) c.args.notes.now
    c.loop-note.note-index c.note-item.result _ _ _ _ c.loop-note-test.true c.note-item.is c.loop-note.invariant c.note_line.ensures
