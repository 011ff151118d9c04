use Rattle.std.proofs.Common.{Bool, Ok, subst, take}
use Rattle.mufom_members.specs.Contents.{HasFed, kind_of}
use Rattle.mufom_members.proofs.Sourcing.{chunk_past, chunk_stopped}
use Rattle.mufom_members.proofs.source.read_chunk.Goals as goal

pub returns-in-Err-feed-clause-read : goal.returns-in-Err-feed-clause-read
returns-in-Err-feed-clause-read g c = λ stream has.
    chunk_stopped (kind_of c.args.content.now) c.args.room (g.S.World.meaning c.args.source.now).left (g.S.World.meaning c.read_some.new.source).left
    stream (take c.in-Ok.count c.read_some.new.buffer) c.feed.new.self _ c.in-Ok.ensures.bytes.1 (c.in-Err-feed.ensures.fed stream has)

pub returns-in-Ok-false-clause-read : goal.returns-in-Ok-false-clause-read
returns-in-Ok-false-clause-read g c = λ stream has.
    chunk_past (kind_of c.args.content.now) c.args.room (g.S.World.meaning c.args.source.now).left (g.S.World.meaning c.read_some.new.source).left
    stream (take c.in-Ok.count c.read_some.new.buffer) c.feed.new.self c.in-Ok.ensures.bytes.1
    (subst (λ (b : Bool). HasFed (kind_of c.args.content.now) c.args.room stream (take c.in-Ok.count c.read_some.new.buffer) c.feed.new.self (Ok b))
    c.in-Ok-false.field-0-test (c.in-Ok-false.ensures.fed stream has))
