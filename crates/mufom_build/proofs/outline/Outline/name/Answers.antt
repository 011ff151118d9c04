use Rattle.std.proofs.Common.{refl}
use Rattle.mufom_debug.specs.declared.item.DebugItem.{Name as name_case}
use Rattle.mufom_debug.specs.Marks.{name_mark}
use Rattle.mufom_build.specs.declared.outline.Outline.{Outline}
use Rattle.mufom_build.proofs.Outlining.{added, name_marks, kept_after}
use Rattle.mufom_build.proofs.outline.Outline.name.Goals as goal

pub returns-clause-marks : goal.returns-clause-marks
returns-clause-marks c =
    let p : Outline = record { blocks = c.args.self.now.blocks; items = c.push.new.self; names = c.in-Some.names } in
    added c.args.self.now p (name_case c.args.name) (name_mark c.args.name) refl c.in_ok-push.ensures.ok (name_marks c.args.name)

pub returns-clause-kept : goal.returns-clause-kept
returns-clause-kept c =
    let p : Outline = record { blocks = c.args.self.now.blocks; items = c.push.new.self; names = c.in-Some.names } in
    let marks = added c.args.self.now p (name_case c.args.name) (name_mark c.args.name) refl c.in_ok-push.ensures.ok (name_marks c.args.name) in
    kept_after c.args.self.now p (name_mark c.args.name) c.requires marks refl c.in-Some.ensures.1
