use Rattle.std.proofs.Common.{ap, sym, ◌∙◌, take, length, option_to_list, ◌+◌}
use Rattle.mufom_names.specs.declared.name.Reference.{Reference}
use Rattle.mufom_select.specs.Choice.{Choice, choice, needed_in, all_needed_in, with_members}
use Rattle.mufom_select.proofs.ChoiceLaws.{all_more, with_members-length}
use Rattle.mufom_select.proofs.choosing.choose.Goals as goal

pub loop-reference-preserved : goal.loop-reference-preserved
loop-reference-preserved c =
    let references = c.args.references.now in
    let i = c.loop-reference.reference-index in
    let start = choice c.args.marks.now c.args.order.now in
    let before = all_needed_in c.args.defined.now c.args.providers.now (take i references) in
    let after = all_needed_in c.args.defined.now c.args.providers.now (take (i + 1) references) in
    let step =
    c.in_ok-mark_needed.ensures
    ∙ ap (λ s. with_members s (option_to_list (needed_in c.args.defined.now c.args.providers.now c.reference-item.result))) c.loop-reference.invariant.0
    ∙ ap (λ (r : Reference). with_members (with_members start before) (option_to_list (needed_in c.args.defined.now c.args.providers.now r)))
    c.reference-item.is
    ∙ sym (all_more (λ (r : Reference). option_to_list (needed_in c.args.defined.now c.args.providers.now r)) start references i
    c.reference-item.result c.loop-reference-test.true) in
    (step, ap (λ (s : Choice). length s.marks) step ∙ with_members-length start after)
