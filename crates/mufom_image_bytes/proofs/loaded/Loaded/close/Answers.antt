use Rattle.std.proofs.Common.{arith}
use Rattle.mufom_image_bytes.proofs.ChunkLaws.{closed}
use Rattle.mufom_image_bytes.proofs.loaded.Loaded.close.Goals as goal

pub returns-in_ok-push-clause-consecutive : goal.returns-in_ok-push-clause-consecutive
returns-in_ok-push-clause-consecutive c =
    let self = c.args.self.now in closed self.chunks.items c.push.new.self.items self.last _ c.in_ok-push.ensures.items c.requires.chunks
    c.requires.last (omega arith)
