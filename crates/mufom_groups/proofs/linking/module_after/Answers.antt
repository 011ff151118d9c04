use Rattle.std.proofs.Common.{◌≡◌, ap, drop, ◌∙◌, arith}
use Rattle.std.specs.Vec.Iter.{into_iter_items}
use Rattle.mufom_groups.proofs.Selecting.{next-drop, next-get}
use Rattle.mufom_groups.proofs.linking.module_after.Goals as goal

pub loop-turn-preserved : goal.loop-turn-preserved
loop-turn-preserved c = next-drop c.loop-turn.turn (into_iter_items c.args.rest.now) _ _ c.next_of.result c.loop-turn.invariant c.next_of.ensures

pub returns-clause-item : goal.returns-clause-item
returns-clause-item c =
    let same : c.loop-turn.turn ≡ c.args.count = omega (arith, c.loop-turn-test.false, c.loop-turn.auto.turn-end) in
    next-get c.args.count (into_iter_items c.args.rest.now) _ _ c.next_of-2.result (c.loop-turn.invariant
    ∙ ap (λ k. drop k (into_iter_items c.args.rest.now)) same) c.next_of-2.ensures

pub returns-clause-rest : goal.returns-clause-rest
returns-clause-rest c =
    let same : c.loop-turn.turn ≡ c.args.count = omega (arith, c.loop-turn-test.false, c.loop-turn.auto.turn-end) in
    next-drop c.args.count (into_iter_items c.args.rest.now) _ _ c.next_of-2.result (c.loop-turn.invariant
    ∙ ap (λ k. drop k (into_iter_items c.args.rest.now)) same) c.next_of-2.ensures
