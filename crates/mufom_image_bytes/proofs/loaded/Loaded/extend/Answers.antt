use Rattle.std.proofs.Common.{refl, arith}
use Rattle.mufom_image_bytes.proofs.ChunkLaws.{extended}
use Rattle.mufom_image_bytes.proofs.loaded.Loaded.extend.Goals as goal

pub returns-clause-cells : goal.returns-clause-cells
returns-clause-cells c =
    let self = c.args.self.now in
    extended self.chunks.items self.last _ self.bytes.items c.args.bytes.now c.extend_from_slice.new.self.items
    c.in_ok-extend_from_slice.ensures.items c.requires.chunks c.requires.last refl refl
    (let last = c.requires.last in let len = c.len.ensures in let longer = c.in_ok-extend_from_slice.ensures.len in omega (arith, last, len, longer))
