use Rattle.mufom_build.proofs.Payloads.{section_read}
use Rattle.mufom_build.proofs.read_sections.read_section.Goals as goal

pub returns : goal.returns
returns c = record {
  reads = λ s same. section_read s same c.words.ensures.reads c.position.ensures.reads c.words-2.ensures.reads c.in_ok-name.ensures.reads
      c.words-3.ensures.reads c.read_type-absolute.ensures.reads c.read_purpose-purpose.ensures.reads c.words-4.ensures.reads
      c.number-size.ensures.reads c.words-5.ensures.reads c.number-align.ensures.reads c.read_base-base.ensures.reads;
}
