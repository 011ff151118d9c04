use Rattle.std.proofs.Common.{◌∷◌, ◌++◌, [], refl, ap, ◌∙◌}
use Rattle.mufom_debug.specs.declared.item.DebugItem.{Block as block_case}
use Rattle.mufom_build.specs.declared.outline.Outline.{Outline}
use Rattle.mufom_build.proofs.Outlining.{ended, ended_kept}
use Rattle.mufom_build.proofs.outline.Outline.end.Goals as goal

pub returns-clause-marks : goal.returns-clause-marks
returns-clause-marks c =
    let p : Outline = record { blocks = c.pop.new.self; items = c.push.new.self; names = c.args.self.now.names } in
    let same = c.in_ok-block.ensures
    ∙ ap (λ items. record { head = c.in-Some.field-0.head; name = c.in-Some.field-0.name; items = items; end = c.args.value })
    c.replace-items.ensures.value in
    let items = c.in_ok-push.ensures.ok ∙ ap (λ l. l ++ block_case c.in_ok-block.block ∷ []) c.replace-items.ensures.after
    ∙ ap (λ block. c.in-Some.field-0.before ++ block_case block ∷ []) same in
    ended c.args.self.now p c.pop.new.self.items c.in-Some.field-0 c.args.value c.in-Some.ensures.items refl items

pub returns-clause-kept : goal.returns-clause-kept
returns-clause-kept c =
    let p : Outline = record { blocks = c.pop.new.self; items = c.push.new.self; names = c.args.self.now.names } in
    let same = c.in_ok-block.ensures
    ∙ ap (λ items. record { head = c.in-Some.field-0.head; name = c.in-Some.field-0.name; items = items; end = c.args.value })
    c.replace-items.ensures.value in
    let items = c.in_ok-push.ensures.ok ∙ ap (λ l. l ++ block_case c.in_ok-block.block ∷ []) c.replace-items.ensures.after
    ∙ ap (λ block. c.in-Some.field-0.before ++ block_case block ∷ []) same in
    let marks = ended c.args.self.now p c.pop.new.self.items c.in-Some.field-0 c.args.value c.in-Some.ensures.items refl items in
    ended_kept c.args.self.now p c.pop.new.self.items c.in-Some.field-0 c.args.value c.requires.kept marks c.in-Some.ensures.items refl refl
