use Rattle.std.proofs.Common.{◌∙◌, ◌++◌, ℕ, Bool, [], Option, Ok, sym, refl, length, subst, arith}
use Rattle.mufom_members.specs.Contents.{HasFed, HasReadRest, kind_of}
use Rattle.mufom_members.proofs.Sourcing.{after_all, after_head, after_past, after_short, after_stop, head_past}
use Rattle.mufom_members.proofs.source.read_after.Goals as goal

pub returns-in-Err-feed-clause-reads : goal.returns-in-Err-feed-clause-reads
returns-in-Err-feed-clause-reads g c = λ before off short.
    after_head c.is_archive.result c.args.options c.args.limit c.args.head.now c.is_archive.ensures (kind_of c.in-Ok.content) c.in-Ok.ensures.kind
    before (g.S.World.meaning c.args.source.now).left (g.S.World.meaning c.args.source.now).left c.in-Err-feed.stop off short
    (λ more. c.in-Err-feed.ensures.fed [] c.in-Ok.ensures.read more)

pub returns-in-Ok-false-clause-reads : goal.returns-in-Ok-false-clause-reads
returns-in-Ok-false-clause-reads g c = λ before off short.
    head_past c.is_archive.result c.args.options c.args.limit c.args.head.now c.is_archive.ensures (kind_of c.feed.new.self)
    (c.in-Ok-false.ensures.kind ∙ c.in-Ok.ensures.kind)
    before (g.S.World.meaning c.args.source.now).left (g.S.World.meaning c.args.source.now).left c.feed.new.self c.stop.result off short
    (subst (λ (b : Bool). HasFed (kind_of c.in-Ok.content) c.args.limit [] c.args.head.now c.feed.new.self (Ok b)) c.in-Ok-false.field-0-test
    (c.in-Ok-false.ensures.fed [] c.in-Ok.ensures.read)) c.stop.ensures.stops

pub returns-then-head-lt-SIGNATURE-clause-reads : goal.returns-then-head-lt-SIGNATURE-clause-reads
returns-then-head-lt-SIGNATURE-clause-reads g c = λ before off short.
    let fed = subst (λ (b : Bool). HasFed (kind_of c.in-Ok.content) c.args.limit [] c.args.head.now c.feed.new.self (Ok b)) c.in-Ok-true.field-0-test
    (c.in-Ok-true.ensures.fed [] c.in-Ok.ensures.read) in
    after_short c.is_archive.result c.args.options c.args.limit c.args.head.now c.is_archive.ensures (kind_of c.feed.new.self)
    (c.in-Ok-true.ensures.kind ∙ c.in-Ok.ensures.kind)
    before (g.S.World.meaning c.args.source.now).left (length c.args.head.now) c.finish.result off short (omega (arith, c.if-head-lt-SIGNATURE.true))
    (c.finish.ensures.modules c.args.limit ([] ++ c.args.head.now) fed.1 fed.0) refl c.finish.ensures.size

pub returns-in-Err-read_rest-clause-reads : goal.returns-in-Err-read_rest-clause-reads
returns-in-Err-read_rest-clause-reads g c = λ before off short.
    after_stop c.is_archive.result c.args.options c.args.limit c.args.head.now c.is_archive.ensures (kind_of c.feed.new.self)
    (c.in-Ok-true.ensures.kind ∙ c.in-Ok.ensures.kind)
    before (g.S.World.meaning c.args.source.now).left (g.S.World.meaning c.read_rest.new.source).left c.read_rest.new.content c.in-Err-read_rest.stop
    off short c.in-Err-read_rest.ensures.read

pub returns-in-Ok-None-clause-reads : goal.returns-in-Ok-None-clause-reads
returns-in-Ok-None-clause-reads g c = λ before off short.
    let fed = subst (λ (b : Bool). HasFed (kind_of c.in-Ok.content) c.args.limit [] c.args.head.now c.feed.new.self (Ok b)) c.in-Ok-true.field-0-test
    (c.in-Ok-true.ensures.fed [] c.in-Ok.ensures.read) in
    after_past c.is_archive.result c.args.options c.args.limit c.args.head.now c.is_archive.ensures (kind_of c.read_rest.new.content)
    (c.in-Ok-None.ensures.kind ∙ c.in-Ok-true.ensures.kind ∙ c.in-Ok.ensures.kind)
    before (g.S.World.meaning c.args.source.now).left (g.S.World.meaning c.read_rest.new.source).left
    c.read_rest.new.content c.stop-in-Ok-None.result fed.0 off short
    (subst (λ (o : Option ℕ). HasReadRest (kind_of c.feed.new.self) c.args.limit (g.S.World.meaning c.args.source.now).left
    (g.S.World.meaning c.read_rest.new.source).left c.args.head.now c.read_rest.new.content (Ok o)) c.in-Ok-None.field-0-is c.in-Ok-None.ensures.read)
    c.stop-in-Ok-None.ensures.stops

pub returns-in-Ok-Some-clause-reads : goal.returns-in-Ok-Some-clause-reads
returns-in-Ok-Some-clause-reads g c = λ before off short.
    let rest = subst (λ (o : Option ℕ). HasReadRest (kind_of c.feed.new.self) c.args.limit (g.S.World.meaning c.args.source.now).left
    (g.S.World.meaning c.read_rest.new.source).left c.args.head.now c.read_rest.new.content (Ok o)) c.in-Ok-Some.field-0-is c.in-Ok-Some.ensures.read in
    let count = rest.1 in let within = rest.2 in
    after_all c.is_archive.result c.args.options c.args.limit c.args.head.now c.is_archive.ensures (kind_of c.read_rest.new.content)
    (c.in-Ok-Some.ensures.kind ∙ c.in-Ok-true.ensures.kind ∙ c.in-Ok.ensures.kind)
    before (g.S.World.meaning c.args.source.now).left (g.S.World.meaning c.read_rest.new.source).left rest.0 c.in-Ok-Some.size
    c.finish-in-Ok-Some.result off short rest.4
    (c.finish-in-Ok-Some.ensures.modules c.args.limit (c.args.head.now ++ rest.0) rest.3 (omega (arith, count, within))) (sym count)
    c.finish-in-Ok-Some.ensures.size
