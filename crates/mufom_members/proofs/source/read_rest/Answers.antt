use Rattle.std.proofs.Common.{◌-◌, ◌∙◌, ◌++◌, ℕ, Option, Ok, subst, arith}
use Rattle.mufom_members.specs.Contents.{HasReadChunk, kind_of}
use Rattle.mufom_members.proofs.Sourcing.{come_end, come_on, come_past, come_stopped, only_trans}
use Rattle.mufom_members.proofs.source.read_rest.Goals as goal

pub returns-in-Err-clause-read : goal.returns-in-Err-clause-read
returns-in-Err-clause-read g c =
    let come = c.chunks.invariant.come in
    come_stopped c.args.head.now c.args.limit c.chunks.size c.args.content.now c.chunks.content c.read_chunk.new.content
    (g.S.World.meaning c.args.source.now).left (g.S.World.meaning c.chunks.source).left (g.S.World.meaning c.read_chunk.new.source).left _ come
    (c.in-Err.ensures.read (c.args.head.now ++ come.more) come.read)

pub returns-in-Ok-None-clause-read : goal.returns-in-Ok-None-clause-read
returns-in-Ok-None-clause-read g c =
    let come = c.chunks.invariant.come in
    let chunk = subst (λ (o : Option ℕ). HasReadChunk (kind_of c.chunks.content) (c.args.limit - c.chunks.size) (g.S.World.meaning c.chunks.source).left
    (g.S.World.meaning c.read_chunk.new.source).left (c.args.head.now ++ come.more) c.read_chunk.new.content (Ok o)) c.in-Ok-None.field-0-is
    (c.in-Ok-None.ensures.read (c.args.head.now ++ come.more) come.read) in
    come_past c.args.head.now c.args.limit c.chunks.size c.args.content.now c.chunks.content c.read_chunk.new.content
    (g.S.World.meaning c.args.source.now).left (g.S.World.meaning c.chunks.source).left (g.S.World.meaning c.read_chunk.new.source).left come chunk

pub returns-then-count-eq0-clause-read : goal.returns-then-count-eq0-clause-read
returns-then-count-eq0-clause-read g c =
    let come = c.chunks.invariant.come in
    let chunk = subst (λ (o : Option ℕ). HasReadChunk (kind_of c.chunks.content) (c.args.limit - c.chunks.size) (g.S.World.meaning c.chunks.source).left
    (g.S.World.meaning c.read_chunk.new.source).left (c.args.head.now ++ come.more) c.read_chunk.new.content (Ok o)) c.in-Ok-Some.field-0-is
    (c.in-Ok-Some.ensures.read (c.args.head.now ++ come.more) come.read) in
    come_end c.args.head.now c.args.limit c.chunks.size c.in-Ok-Some.count c.args.content.now c.chunks.content c.read_chunk.new.content
    (g.S.World.meaning c.args.source.now).left (g.S.World.meaning c.chunks.source).left (g.S.World.meaning c.read_chunk.new.source).left come
    chunk (omega (arith, c.if-count-eq0.true))

pub chunks-preserved : goal.chunks-preserved
chunks-preserved g c =
    let come = c.chunks.invariant.come in
    let chunk = subst (λ (o : Option ℕ). HasReadChunk (kind_of c.chunks.content) (c.args.limit - c.chunks.size) (g.S.World.meaning c.chunks.source).left
    (g.S.World.meaning c.read_chunk.new.source).left (c.args.head.now ++ come.more) c.read_chunk.new.content (Ok o)) c.in-Ok-Some.field-0-is
    (c.in-Ok-Some.ensures.read (c.args.head.now ++ come.more) come.read) in
    record {
      come = come_on c.args.head.now c.args.limit c.chunks.size c.in-Ok-Some.count c.args.content.now c.chunks.content c.read_chunk.new.content
          (g.S.World.meaning c.args.source.now).left (g.S.World.meaning c.chunks.source).left (g.S.World.meaning c.read_chunk.new.source).left come
          chunk c.in-Ok-Some.ensures.kind;
      only = only_trans (g.S.World.meaning c.args.source.now) (g.S.World.meaning c.chunks.source) (g.S.World.meaning c.read_chunk.new.source)
          (g.S.World.faults c.args.source.now) (g.S.World.faults c.chunks.source) (g.S.World.faults c.read_chunk.new.source)
          c.chunks.invariant.only c.in-Ok-Some.ensures.only;
      same = c.in-Ok-Some.ensures.same ∙ c.chunks.invariant.same;
    }
