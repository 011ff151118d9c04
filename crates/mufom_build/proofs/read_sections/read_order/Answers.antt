use Rattle.mufom_build_text.proofs.FirstBytes.{no}
use Rattle.mufom_build.proofs.Choosing.{least_read, most_read}
use Rattle.mufom_build.proofs.read_sections.read_order.Goals as goal

pub returns-then-is_next : goal.returns-then-is_next
returns-then-is_next c = record { reads = least_read (c.is_next.ensures.0 c.if-is_next.true) c.words.ensures.reads }

pub returns : goal.returns
returns c = record { reads = most_read (λ front. no (c.if-is_next.ensures.1 front)) c.words-2.ensures.reads }
