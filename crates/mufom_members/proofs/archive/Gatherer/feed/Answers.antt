use Rattle.std.proofs.Common.{◌∙◌, sym}
use Rattle.mufom_members.proofs.Gathering.{begins, stays_refused}
use Rattle.mufom_members.proofs.Taking.{on_ok}
use Rattle.mufom_members.proofs.archive.Gatherer.feed.Goals as goal

pub returns-then-has_refused-clause-read : goal.returns-then-has_refused-clause-read
returns-then-has_refused-clause-read c = λ stream has.
    stays_refused c.args.self.now c.feed.new.self stream c.args.chunk.now has (c.in_ok-feed.ensures.read stream has.0)
    (sym c.has_refused.ensures ∙ c.if-has_refused.true)

pub gather-requires : goal.gather-requires
gather-requires c = record {
  begun = (
    c.requires.begun.0,
    begins c.args.self.now c.feed.new.self c.requires.begun.0 c.args.chunk.now c.requires.begun.1
        (c.in_ok-feed.ensures.read c.requires.begun.0 c.requires.begun.1.0) c.len-start.result c.len-start.ensures c.requires.fits
        (sym c.has_refused.ensures ∙ c.if-has_refused.false),
  );
}

pub returns-clause-read : goal.returns-clause-read
returns-clause-read c = on_ok c.gather.result c.gather.ensures.read (λ further stream has.
    further stream (begins c.args.self.now c.feed.new.self stream c.args.chunk.now has (c.in_ok-feed.ensures.read stream has.0) c.len-start.result
    c.len-start.ensures c.requires.fits (sym c.has_refused.ensures ∙ c.if-has_refused.false)))
