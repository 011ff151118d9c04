use Rattle.std.proofs.Common.{sym, subst, arith, take, Result}
use Rattle.std.proofs.lemmas.List.{take_all, take-take, length-take}
use Rattle.std.proofs.lemmas.Result.{err_from_is_err_and}
use Rattle.mufom_source.specs.declared.source.SourceStop.{SourceStop}
use Rattle.mufom_source.specs.Source.{HasFed}
use Rattle.mufom_source.proofs.Feeding.{fed-whole, fed-stopped, fed-limit}
use Rattle.mufom_source.proofs.source.feed_within.Goals as goal

pub returns-in_err-feed-clause-fed : goal.returns-in_err-feed-clause-fed
returns-in_err-feed-clause-fed c = λ stream has.
    let chunk = take c.args.count c.args.buffer.now in
    let p = err_from_is_err_and c.from_residual.result c.from_residual.ensures.1 in
    subst (λ (r : Result (Unit {0}) SourceStop). HasFed c.args.room stream chunk c.feed.new.self r) (sym p.1)
    (fed-stopped c.args.room stream chunk chunk c.feed.new.self c.in_err-feed.field-0.0 p.0
    (take_all c.args.room chunk (omega (arith, length-take c.args.count c.args.buffer.now, c.if-count-room.true)))
    p.2 c.in_err-feed.ensures.answer (c.in_err-feed.ensures.read stream has))

pub returns-in_err-feed-2-clause-fed : goal.returns-in_err-feed-2-clause-fed
returns-in_err-feed-2-clause-fed c = λ stream has.
    let chunk = take c.args.count c.args.buffer.now in
    let p = err_from_is_err_and c.from_residual-in_err-feed-2.result c.from_residual-in_err-feed-2.ensures.1 in
    subst (λ (r : Result (Unit {0}) SourceStop). HasFed c.args.room stream chunk c.feed-2.new.self r) (sym p.1)
    (fed-stopped c.args.room stream chunk (take c.args.room c.args.buffer.now) c.feed-2.new.self c.in_err-feed-2.field-0.0 p.0
    (take-take c.args.room c.args.count c.args.buffer.now (omega (arith, c.if-count-room.false)))
    p.2 c.in_err-feed-2.ensures.answer (c.in_err-feed-2.ensures.read stream has))

pub returns-clause-fed : goal.returns-clause-fed
returns-clause-fed c = λ stream has.
    fed-limit c.args.room c.args.count stream c.args.buffer.now c.feed-2.new.self c.in_ok-feed-2.field-0 (omega (arith, c.if-count-room.false))
    c.requires c.in_ok-feed-2.ensures.answer (c.in_ok-feed-2.ensures.read stream has)

pub returns-then-count-room-clause-fed : goal.returns-then-count-room-clause-fed
returns-then-count-room-clause-fed c = λ stream has.
    fed-whole c.args.room c.args.count stream c.args.buffer.now c.feed.new.self c.in_ok-feed.field-0 (omega (arith, c.if-count-room.true))
    c.in_ok-feed.ensures.answer (c.in_ok-feed.ensures.read stream has)
