use Rattle.std.proofs.Common.{◌<◌, ◌∙◌, ◌+◌, Some, ap, sym, subst, length, arith}
use Rattle.std.proofs.lemmas.Option.{slice_get-get_or}
use Rattle.mufom_select.specs.Choice.{choice, with_members}
use Rattle.mufom_select.proofs.ChoiceLaws.{All-at}
use Rattle.mufom_select.proofs.Least.{past-end, order-within}
use Rattle.mufom_prune.specs.Underway.{AreBelow, IsUnderway}
use Rattle.mufom_prune.proofs.Reaching.{begun, looked, all-done, needs-below}
use Rattle.mufom_prune.proofs.reach.follow.Goals as goal

pub loop-turn-init : goal.loop-turn-init
loop-turn-init c =
    let start = choice c.args.marks.now c.args.order.now in
    subst (IsUnderway c.args.needs.now c.args.roots.now 0) (sym c.in_ok-mark_all.ensures)
    (begun c.args.needs.now c.args.roots.now start c.requires.start c.requires.rooted)

pub mark_all-requires : goal.mark_all-requires
mark_all-requires c = subst (λ k. AreBelow k c.args.roots.now) (sym c.requires.start.sized) c.requires.rooted

pub bounds-needs-entry : goal.bounds-needs-entry
bounds-needs-entry c = All-at (λ n. n < length c.args.needs.now) c.loop-turn.order c.loop-turn.turn c.in-Some.entry.now
    c.loop-turn.invariant.one.inside (sym c.in-Some.ensures)

pub mark_all-requires-in-loop-turn : goal.mark_all-requires-in-loop-turn
mark_all-requires-in-loop-turn c =
    let needs = c.args.needs.now in
    let n = c.in-Some.entry.now in
    let ns = c.index-needs-entry.result in
    let inside = All-at (λ n. n < length needs) c.loop-turn.order c.loop-turn.turn n c.loop-turn.invariant.one.inside (sym c.in-Some.ensures) in
    let its = slice_get-get_or needs n ns inside ∙ ap Some (sym c.index-needs-entry.is) in
    let below = needs-below (length needs) needs n ns c.requires.inside its in
    subst (λ k. AreBelow k c.as_slice.result.now) (sym c.loop-turn.invariant.one.sized) (subst (AreBelow (length needs)) (sym c.as_slice.ensures) below)

pub loop-turn-preserved : goal.loop-turn-preserved
loop-turn-preserved c =
    let needs = c.args.needs.now in
    let place = c.loop-turn.turn in
    let before = choice c.loop-turn.marks c.loop-turn.order in
    let n = c.in-Some.entry.now in
    let ns = c.index-needs-entry.result in
    let at = sym c.in-Some.ensures in
    let inside = All-at (λ n. n < length needs) c.loop-turn.order place n c.loop-turn.invariant.one.inside at in
    let its = slice_get-get_or needs n ns inside ∙ ap Some (sym c.index-needs-entry.is) in
    subst (IsUnderway needs c.args.roots.now (place + 1)) (sym (c.in_ok-mark_all-2.ensures ∙ ap (with_members before) c.as_slice.ensures))
    (looked needs c.args.roots.now place n ns before c.loop-turn.invariant at its (needs-below (length needs) needs n ns c.requires.inside its))

pub returns-after-loop-turn : goal.returns-after-loop-turn
returns-after-loop-turn c =
    let order = order-within (length c.args.needs.now) (choice c.loop-turn.marks c.loop-turn.order) c.loop-turn.invariant.one in
    all-done c.args.needs.now c.args.roots.now c.loop-turn.turn (choice c.loop-turn.marks c.loop-turn.order) c.loop-turn.invariant
    (omega (arith, order, c.loop-turn-test.false))

pub returns-in_default : goal.returns-in_default
returns-in_default c =
    all-done c.args.needs.now c.args.roots.now c.loop-turn.turn (choice c.loop-turn.marks c.loop-turn.order) c.loop-turn.invariant
    (past-end c.loop-turn.order c.loop-turn.turn (sym c.in_default.ensures))
