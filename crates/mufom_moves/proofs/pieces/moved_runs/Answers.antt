use Rattle.std.proofs.Common.{◌≡◌, ◌<◌, length, get_or, sym, ◌∙◌, ap, subst}
use Rattle.std.proofs.lemmas.Iterator.Adapters.{YieldsList-from_vec}
use Rattle.std.proofs.lemmas.Iterator.Consumers.{YieldsList-turn}
use Rattle.std.proofs.lemmas.List.{length_push}
use Rattle.mufom_moves.proofs.RunLaws.{AreMovedSoFar, next_end, next_low, next_moved}
use Rattle.mufom_moves.proofs.pieces.moved_runs.Goals as goal
use Rattle.mufom_moves.proofs.pieces.moved_runs.Goals.{After-ending_after-rest}

-- which run is the next one
turn : (c : After-ending_after-rest) → (length c.loop-run.yielded < length c.args.runs)
    × (c.in-Some.run' ≡ get_or c.args.runs (length c.loop-run.yielded) c.in-Some.run')
turn c =
    let gives = c.into_iter-run-iterator.ensures.into_iter_gives in
    let items = c.into_vec-run-items.ensures in
    YieldsList-turn (YieldsList-from_vec c.args.runs (gives.0 ∙ items) (gives.1 ∙ c.into_vec-run-items.result.ok.0 ∙ ap length items))
    c.loop-run.yielded _ c.loop-run.yielded_by _ c.next.new.self c.in-Some.run' c.in-Some.is c.next.ensures.steps

pub move_run-requires-clause-end : goal.move_run-requires-clause-end
move_run-requires-clause-end c =
    let next = turn (goal.at.move_run-requires-clause-end c).After-ending_after-rest in
    next_end c.args.runs c.args.shifts.now c.loop-run.rest.now c.loop-run.moved.items (length c.loop-run.yielded) c.in-Some.run' c.loop-run.invariant
    next.0 next.1 c.requires.low

pub move_run-requires-clause-low : goal.move_run-requires-clause-low
move_run-requires-clause-low c =
    let next = turn (goal.at.move_run-requires-clause-low c).After-ending_after-rest in
    next_low c.args.runs c.args.shifts.now c.loop-run.rest.now c.loop-run.moved.items (length c.loop-run.yielded) c.in-Some.run' c.loop-run.invariant
    next.0 next.1 c.ending_after-rest.result.now c.ending_after-rest.ensures.alike c.requires.stay_low

pub loop-run-preserved : goal.loop-run-preserved
loop-run-preserved c =
    let next = turn (goal.at.loop-run-preserved c).After-ending_after-rest in
    subst (AreMovedSoFar c.args.runs c.args.shifts.now c.ending_after-rest.result.now c.move_run.new.moved.items)
    (sym (length_push c.loop-run.yielded c.in-Some.run'))
    (next_moved c.args.runs c.args.shifts.now c.loop-run.rest.now c.loop-run.moved.items (length c.loop-run.yielded) c.in-Some.run' c.loop-run.invariant
    next.0 next.1 c.ending_after-rest.result.now c.ending_after-rest.ensures.alike c.move_run.new.moved.items c.ending_after-rest.ensures.rising
    c.in_ok-move_run.ensures.filled c.in_ok-move_run.ensures.cells)
