use Rattle.mufom_build_text.proofs.FirstBytes.{no}
use Rattle.mufom_build.proofs.Choosing.{signed_read, unsigned_read, either_read}
use Rattle.mufom_build.proofs.read_loads.read_kind.Goals as goal

pub returns-then-is_next : goal.returns-then-is_next
returns-then-is_next c = record { reads = signed_read (c.is_next.ensures.0 c.if-is_next.true) c.words.ensures.reads }

pub returns-then-is_next-2 : goal.returns-then-is_next-2
returns-then-is_next-2 c = record { reads = unsigned_read (c.is_next-2.ensures.0 c.if-is_next-2.true) c.words-then-is_next-2.ensures.reads }

pub returns : goal.returns
returns c = record {
  reads = either_read (λ front. no (c.if-is_next.ensures.1 front)) (λ front. no (c.if-is_next-2.ensures.1 front))
      c.words-2.ensures.reads;
}
