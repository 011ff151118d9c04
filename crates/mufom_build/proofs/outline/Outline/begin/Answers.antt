use Rattle.std.proofs.Common.{refl, ◌∙◌}
use Rattle.mufom_build.specs.declared.outline.OpenBlock.{OpenBlock}
use Rattle.mufom_build.specs.declared.outline.Outline.{Outline}
use Rattle.mufom_build.proofs.Outlining.{begun, begun_kept}
use Rattle.mufom_build.proofs.outline.Outline.begin.Goals as goal

pub returns-clause-marks : goal.returns-clause-marks
returns-clause-marks c =
    let b : OpenBlock = record { before = c.replace-before.result; head = c.args.head; name = c.args.name } in
    let p : Outline = record { blocks = c.push.new.self; items = c.replace-before.new.dest; names = c.args.self.now.names } in
    begun c.args.self.now p b c.replace-before.ensures.value c.in_ok-push.ensures.items (c.replace-before.ensures.after ∙ c.new.ensures)

pub returns-clause-kept : goal.returns-clause-kept
returns-clause-kept c =
    let b : OpenBlock = record { before = c.replace-before.result; head = c.args.head; name = c.args.name } in
    let p : Outline = record { blocks = c.push.new.self; items = c.replace-before.new.dest; names = c.args.self.now.names } in
    let marks = begun c.args.self.now p b c.replace-before.ensures.value c.in_ok-push.ensures.items
    (c.replace-before.ensures.after ∙ c.new.ensures) in
    begun_kept c.args.self.now p b c.requires marks c.in_ok-push.ensures.items refl
