use Rattle.std.proofs.Common.{◌++◌}
use Rattle.mufom_read.specs.Reader.{options_of}
use Rattle.mufom_members.specs.Contents.{kind_of, plain_of}
use Rattle.mufom_members.proofs.Feeding.{fed_within, plain_stop}
use Rattle.mufom_members.proofs.Taking.{early_by, going_answered}
use Rattle.mufom_members.proofs.content.feed_plain.Goals as goal

pub returns-in-Err-clause-fed : goal.returns-in-Err-clause-fed
returns-in-Err-clause-fed c = λ stream has more.
    plain_stop (options_of c.args.reader.now) c.args.room stream c.args.chunk.now more c.first_bytes.result.now c.in-Err.stop c.stop_by.result
    c.first_bytes.ensures.front c.stop_by.ensures
    (early_by (options_of c.args.reader.now) c.feed.new.self (stream ++ c.first_bytes.result.now) c.in-Err.stop (c.in-Err.ensures.read stream has.0)
    c.in-Err.ensures.options c.in-Err.ensures.answer)

pub returns-clause-fed : goal.returns-clause-fed
returns-clause-fed c = λ stream has.
    fed_within (kind_of (plain_of c.args.reader.now)) c.args.room stream c.args.chunk.now c.first_bytes.result.now (plain_of c.feed.new.self) c.fits.result
    c.first_bytes.ensures.front c.fits.ensures (c.in-Ok.ensures.read stream has.0, going_answered _ _ c.in-Ok.ensures.answer)
