use Rattle.std.proofs.Common.{refl}
use Rattle.mufom_text.specs.Words.{quoted_byte}
use Rattle.mufom_text.proofs.Loops.{flat-step}
use Rattle.mufom_text.proofs.words.quoted_bytes.Goals as goal

pub loop-byte-preserved : goal.loop-byte-preserved
loop-byte-preserved g c = flat-step g.K.Output.takes g.met.K.Output.joins quoted_byte c.args.bytes.now c.loop-byte.byte-index 0 _ _ _ _
    c.loop-byte-test.true refl c.loop-byte.invariant c.quoted_byte.ensures
