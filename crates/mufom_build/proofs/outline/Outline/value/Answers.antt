use Rattle.std.proofs.Common.{refl}
use Rattle.mufom_debug.specs.declared.item.DebugItem.{Value as value_case}
use Rattle.mufom_debug.specs.Marks.{value_mark}
use Rattle.mufom_build.specs.declared.outline.Outline.{Outline}
use Rattle.mufom_build.proofs.Outlining.{added, value_marks, kept_after}
use Rattle.mufom_build.proofs.outline.Outline.value.Goals as goal

pub returns-clause-marks : goal.returns-clause-marks
returns-clause-marks c =
    let p : Outline = record { blocks = c.args.self.now.blocks; items = c.push.new.self; names = c.args.self.now.names } in
    added c.args.self.now p (value_case c.args.name c.args.value) (value_mark c.args.name c.args.value) refl c.in_ok-push.ensures.ok
    (value_marks c.args.name c.args.value)

pub returns-clause-kept : goal.returns-clause-kept
returns-clause-kept c =
    let p : Outline = record { blocks = c.args.self.now.blocks; items = c.push.new.self; names = c.args.self.now.names } in
    let marks = added c.args.self.now p (value_case c.args.name c.args.value) (value_mark c.args.name c.args.value) refl c.in_ok-push.ensures.ok
    (value_marks c.args.name c.args.value) in
    kept_after c.args.self.now p (value_mark c.args.name c.args.value) c.requires marks refl refl
