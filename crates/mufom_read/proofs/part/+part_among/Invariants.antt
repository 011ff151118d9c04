use Rattle.std.proofs.Common.{length}
use Rattle.mufom_read.proofs.part.+part_among.Given as goal

abbrev pub decreases-part_among : goal.decreases-part_among
decreases-part_among l = length l.parts.now
