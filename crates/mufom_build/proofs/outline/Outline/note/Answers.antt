use Rattle.std.proofs.Common.{refl}
use Rattle.mufom_debug.specs.declared.item.DebugItem.{Note as note_case}
use Rattle.mufom_debug.specs.Marks.{note_mark}
use Rattle.mufom_build.specs.declared.outline.Outline.{Outline}
use Rattle.mufom_build.proofs.Outlining.{added, note_marks, kept_after}
use Rattle.mufom_build.proofs.outline.Outline.note.Goals as goal

pub returns-clause-marks : goal.returns-clause-marks
returns-clause-marks c =
    let p : Outline = record { blocks = c.args.self.now.blocks; items = c.push.new.self; names = c.args.self.now.names } in
    added c.args.self.now p (note_case c.args.name c.args.note) (note_mark c.args.name c.args.note) refl c.in_ok-push.ensures.ok
    (note_marks c.args.name c.args.note)

pub returns-clause-kept : goal.returns-clause-kept
returns-clause-kept c =
    let p : Outline = record { blocks = c.args.self.now.blocks; items = c.push.new.self; names = c.args.self.now.names } in
    let marks = added c.args.self.now p (note_case c.args.name c.args.note) (note_mark c.args.name c.args.note) refl c.in_ok-push.ensures.ok
    (note_marks c.args.name c.args.note) in
    kept_after c.args.self.now p (note_mark c.args.name c.args.note) c.requires marks refl refl
