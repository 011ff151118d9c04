use Rattle.mufom_image_bytes.proofs.SharedLaws.{none_share, some_byte}
use Rattle.std.proofs.Common.{arith}
use Rattle.mufom_image_bytes.proofs.doubles.first_shared.Goals as goal

pub loop-over-init : goal.loop-over-init
loop-over-init c = (some_byte c.args.count 0 c.args.chunks.now c.requires, omega arith, c.requires, none_share 0 c.args.chunks.now)
