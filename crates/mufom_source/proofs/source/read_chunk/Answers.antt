use Rattle.std.proofs.Common.{◌∙◌, sym, ap, subst, arith, ℕ, Result, Err, length}
use Rattle.std.proofs.lemmas.Result.{err_from_is_err_and}
use Rattle.mufom_source.specs.declared.source.SourceStop.{SourceStop}
use Rattle.mufom_source.specs.Source.{HasReadChunk}
use Rattle.mufom_source.proofs.Feeding.{chunk-stopped, chunk-read, read-at-most, failed-at-most}
use Rattle.mufom_source.proofs.source.read_chunk.Goals as goal

pub returns-in_err-feed_within-in-Ok-clause-read : goal.returns-in_err-feed_within-in-Ok-clause-read
returns-in_err-feed_within-in-Ok-clause-read g c = λ stream has.
    let before = (g.S.World.meaning c.args.source.now).left in
    let after = (g.S.World.meaning c.read.new.self).left in
    let p = err_from_is_err_and c.from_residual.result c.from_residual.ensures.1 in
    subst (λ (r : Result ℕ SourceStop). HasReadChunk c.args.room before after stream c.feed_within.new.reader r) (sym (p.1 ∙ ap Err p.2))
    (chunk-stopped c.args.room c.in-Ok.count before after stream c.read.new.buffer c.feed_within.new.reader c.in_err-feed_within-in-Ok.field-0.0
    c.in-Ok.ensures.bytes (c.in_err-feed_within-in-Ok.ensures.fed stream has))

pub returns-in_ok-feed_within-in-Ok-clause-read : goal.returns-in_ok-feed_within-in-Ok-clause-read
returns-in_ok-feed_within-in-Ok-clause-read g c = λ stream has.
    let before = (g.S.World.meaning c.args.source.now).left in
    let after = (g.S.World.meaning c.read.new.self).left in
    chunk-read c.args.room c.in-Ok.count before after stream c.read.new.buffer c.feed_within.new.reader c.in_ok-feed_within-in-Ok.field-0
    c.in-Ok.ensures.bytes c.in-Ok.ensures.bound (omega (arith, c.requires, c.read.auto.buffer))
    (c.in_ok-feed_within-in-Ok.ensures.fed stream has)

pub returns-in-Err-clause-taken : goal.returns-in-Err-clause-taken
returns-in-Err-clause-taken g c = failed-at-most (g.S.World.meaning c.args.source.now).left (g.S.World.meaning c.read.new.self).left _
    c.read.new.buffer (length c.args.buffer.now) c.in-Err.ensures.bytes

pub returns-in_err-feed_within-in-Ok-clause-taken : goal.returns-in_err-feed_within-in-Ok-clause-taken
returns-in_err-feed_within-in-Ok-clause-taken g c =
    read-at-most (g.S.World.meaning c.args.source.now).left (g.S.World.meaning c.read.new.self).left c.in-Ok.count c.read.new.buffer
    (length c.args.buffer.now) c.in-Ok.ensures.bytes c.in-Ok.ensures.bound c.read.auto.buffer

pub returns-in_ok-feed_within-in-Ok-clause-taken : goal.returns-in_ok-feed_within-in-Ok-clause-taken
returns-in_ok-feed_within-in-Ok-clause-taken g c =
    read-at-most (g.S.World.meaning c.args.source.now).left (g.S.World.meaning c.read.new.self).left c.in-Ok.count c.read.new.buffer
    (length c.args.buffer.now) c.in-Ok.ensures.bytes c.in-Ok.ensures.bound c.read.auto.buffer
