use Rattle.std.proofs.Common.{◌≡◌, sym}
use Rattle.mufom_host.proofs.Composing.{GrowsByPrefix-more, GrowsByPrefix-trans}
use Rattle.mufom_host.proofs.streams.Making.write.Goals as goal

pub returns-in-Err-clause-bytes : goal.returns-in-Err-clause-bytes
returns-in-Err-clause-bytes g c =
    GrowsByPrefix-more _ _ c.args.self.now.block c.args.bytes.now (rw c.if-hold.ensures.full at c.in-Err.ensures.bytes)

pub returns-in-Err-pass_on-clause-bytes : goal.returns-in-Err-pass_on-clause-bytes
returns-in-Err-pass_on-clause-bytes g c =
    GrowsByPrefix-trans _ (g.W.Write.contents c.flush.new.self.target.writer) _ c.args.self.now.block c.args.bytes.now
    (rw c.if-hold.ensures.full at c.in-Ok.ensures.bytes) c.in-Err-pass_on.ensures.bytes
