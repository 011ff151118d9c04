use Rattle.std.proofs.Common.{length}
use Rattle.mufom_read.proofs.part.+first_present.Given as goal

abbrev pub decreases-first_present : goal.decreases-first_present
decreases-first_present l = length l.offsets.now
