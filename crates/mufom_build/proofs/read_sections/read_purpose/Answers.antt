use Rattle.mufom_build_text.proofs.FirstBytes.{no}
use Rattle.mufom_build.proofs.Choosing.{code_read, data_read, rom_read, no_purpose_read}
use Rattle.mufom_build.proofs.read_sections.read_purpose.Goals as goal

pub returns-then-is_next : goal.returns-then-is_next
returns-then-is_next c = record { reads = code_read (c.is_next.ensures.0 c.if-is_next.true) c.words.ensures.reads }

pub returns-then-is_next-2 : goal.returns-then-is_next-2
returns-then-is_next-2 c = record { reads = data_read (c.is_next-2.ensures.0 c.if-is_next-2.true) c.words-then-is_next-2.ensures.reads }

pub returns-then-is_next-3 : goal.returns-then-is_next-3
returns-then-is_next-3 c = record { reads = rom_read (c.is_next-3.ensures.0 c.if-is_next-3.true) c.words-then-is_next-3.ensures.reads }

pub returns : goal.returns
returns c = record {
  reads = no_purpose_read (λ front. no (c.if-is_next.ensures.1 front)) (λ front. no (c.if-is_next-2.ensures.1 front))
      (λ front. no (c.if-is_next-3.ensures.1 front));
}
