use Rattle.std.proofs.Common.{length}
use Rattle.mufom_image_bytes.proofs.SpreadLaws.{AreRunsSoFar}
use Rattle.mufom_image_bytes.proofs.runs.maximal_runs.Given as goal

abbrev pub invariant-loop-rest : goal.invariant-loop-rest
invariant-loop-rest l = AreRunsSoFar l.bytes l.chunks l.rest l.runs

abbrev pub decreases-loop-rest : goal.decreases-loop-rest
decreases-loop-rest l = length l.rest
