use Rattle.std.proofs.Common.{◌<◌, ◌∙◌, ◌∷◌, [], ◌+◌, Some, ap, sym, subst, length, arith}
use Rattle.std.proofs.lemmas.Option.{slice_get-get_or, slice_get_within}
use Rattle.mufom_module.specs.declared.module.Parts.{Parts}
use Rattle.mufom_select.specs.Choice.{choice, all_needed_in, with_members, IsWithin}
use Rattle.mufom_select.specs.Underway.{IsUnderway}
use Rattle.mufom_select.proofs.ChoiceLaws.{All-at}
use Rattle.mufom_select.proofs.IndexLaws.{providers-within}
use Rattle.mufom_select.proofs.Least.{all-needed, begun, looked, needed-within, all-done, past-end, order-within}
use Rattle.mufom_select.proofs.choosing.choose_all.Goals as goal

pub choose-requires : goal.choose-requires
choose-requires c =
    subst (IsWithin c.args.providers.now) (sym c.requires.start.sized)
    (subst (λ entries. IsWithin entries (length c.args.members.now)) (sym c.requires.providers) (providers-within c.args.members.now))

pub loop-turn-init : goal.loop-turn-init
loop-turn-init c =
    let start = choice c.args.marks.now c.args.order.now in
    let references = c.as_slice-references.ensures ∙ ap (λ (m : Parts). m.names.references) c.parts.ensures.same in
    let needs = (λ i. all_needed_in (c.requires.defined i) (c.requires.providers i) (references i))
    ∙ all-needed c.args.roots.now c.args.members.now c.args.roots.now.names.references in
    subst (IsUnderway (c.args.roots.now ∷ []) c.args.members.now 0) (sym (c.in_ok-choose.ensures ∙ ap (with_members start) needs))
    (begun c.args.roots.now c.args.members.now start c.requires.start)

pub bounds-members-member : goal.bounds-members-member
bounds-members-member c =
    All-at (λ n. n < length c.args.members.now) c.loop-turn.order c.loop-turn.turn c.in-Some.member.now c.loop-turn.invariant.one.inside (sym c.in-Some.ensures)

pub choose-requires-in-loop-turn : goal.choose-requires-in-loop-turn
choose-requires-in-loop-turn c =
    subst (IsWithin c.args.providers.now) (sym c.loop-turn.invariant.one.sized)
    (subst (λ entries. IsWithin entries (length c.args.members.now)) (sym c.requires.providers) (providers-within c.args.members.now))

pub loop-turn-preserved : goal.loop-turn-preserved
loop-turn-preserved c =
    let members = c.args.members.now in
    let roots = c.args.roots.now in
    let place = c.loop-turn.turn in
    let before = choice c.loop-turn.marks c.loop-turn.order in
    let n = c.in-Some.member.now in
    let m = c.index-members-member.result in
    let at = sym c.in-Some.ensures in
    let inside = All-at (λ n. n < length members) c.loop-turn.order place n c.loop-turn.invariant.one.inside at in
    let its = slice_get-get_or members n m inside ∙ ap Some (sym c.index-members-member.is) in
    let references = c.as_slice-references-in-loop-turn.ensures ∙ ap (λ (m : Parts). m.names.references) c.parts-in-loop-turn.ensures.same in
    let needs = (λ i. all_needed_in (c.requires.defined i) (c.requires.providers i) (references i)) ∙ all-needed roots members m.names.references in
    subst (IsUnderway (roots ∷ []) members (place + 1)) (sym (c.in_ok-choose-2.ensures ∙ ap (with_members before) needs))
    (looked (roots ∷ []) members place n m before c.loop-turn.invariant at (slice_get_within c.loop-turn.order place n at) its
    (needed-within (roots ∷ []) members m.names.references))

pub returns-after-loop-turn : goal.returns-after-loop-turn
returns-after-loop-turn c =
    let order = order-within (length c.args.members.now) (choice c.loop-turn.marks c.loop-turn.order) c.loop-turn.invariant.one in
    all-done (c.args.roots.now ∷ []) c.args.members.now c.loop-turn.turn (choice c.loop-turn.marks c.loop-turn.order) c.loop-turn.invariant
    (omega (arith, order, c.loop-turn-test.false))

pub returns-in_default : goal.returns-in_default
returns-in_default c =
    all-done (c.args.roots.now ∷ []) c.args.members.now c.loop-turn.turn (choice c.loop-turn.marks c.loop-turn.order) c.loop-turn.invariant
    (past-end c.loop-turn.order c.loop-turn.turn (sym c.in_default.ensures))
