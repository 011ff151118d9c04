use Rattle.std.proofs.Common.{arith}
use Rattle.mufom_archive.proofs.ListingLaws.{header_complete, header_short}
use Rattle.mufom_archive.proofs.archive.Archive.bad_header.Goals as goal

pub returns-then-remaining_capacity-eq0 : goal.returns-then-remaining_capacity-eq0
returns-then-remaining_capacity-eq0 c = λ stream k.
    header_complete stream _ _ _ _ _ _ k (omega (arith, c.remaining_capacity.ensures, c.if-remaining_capacity-eq0.true))

pub returns-else-remaining_capacity-eq0 : goal.returns-else-remaining_capacity-eq0
returns-else-remaining_capacity-eq0 c = λ stream k.
    header_short stream _ _ _ _ _ _ k (omega (arith, c.remaining_capacity.ensures, c.if-remaining_capacity-eq0.false))
