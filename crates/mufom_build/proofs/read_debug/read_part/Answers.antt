use Rattle.mufom_build.proofs.Heads.{part_line_read}
use Rattle.mufom_build.proofs.read_debug.read_part.Goals as goal

pub returns : goal.returns
returns c = record {
  reads = part_line_read c.words.ensures.reads c.number-section_type.ensures.reads c.words-2.ensures.reads c.place-section.ensures.reads
      c.words-3.ensures.reads c.in_ok-offset.ensures.reads;
}
