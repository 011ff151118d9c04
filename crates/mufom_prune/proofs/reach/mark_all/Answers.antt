use Rattle.std.proofs.Common.{ap, sym, ◌∙◌, ◌∷◌, [], take, length, get_or, ◌+◌}
use Rattle.std.proofs.lemmas.List.{take_more}
use Rattle.mufom_select.specs.Choice.{Choice, choice, with_member, with_members}
use Rattle.mufom_select.proofs.ChoiceLaws.{with_members-append, with_members-length}
use Rattle.mufom_prune.proofs.reach.mark_all.Goals as goal

pub loop-entry-preserved : goal.loop-entry-preserved
loop-entry-preserved c =
    let entries = c.args.entries.now in
    let i = c.loop-entry.entry-index in
    let start = choice c.args.marks.now c.args.order.now in
    let step =
    c.in_ok-mark.ensures
    ∙ ap (λ s. with_member s (get_or entries i 0)) c.loop-entry.invariant.0
    ∙ sym (ap (with_members start) (take_more entries i 0 c.loop-entry-test.true) ∙ with_members-append start (take i entries) (get_or entries i 0 ∷ [])) in
    (step, ap (λ (s : Choice). length s.marks) step ∙ with_members-length start (take (i + 1) entries))
