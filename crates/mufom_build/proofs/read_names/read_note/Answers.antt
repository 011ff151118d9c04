use Rattle.mufom_build.proofs.Payloads.{note_read}
use Rattle.mufom_build.proofs.read_names.read_note.Goals as goal

pub returns : goal.returns
returns c = record {
  reads = note_read c.words.ensures.reads c.number-type_index.ensures.reads c.words-2.ensures.reads c.number-attribute.ensures.reads
      c.read_numbers-numbers.ensures.reads;
}
