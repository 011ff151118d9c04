use Rattle.std.proofs.Common.{refl}
use Rattle.mufom_build_text.proofs.FirstBytes.{no}
use Rattle.mufom_build.proofs.Payloads.{note_line_read, debug_note_read}
use Rattle.mufom_build.proofs.read_names.read_note_line.Goals as goal

pub returns-then-is_ahead : goal.returns-then-is_ahead
returns-then-is_ahead c = record {
  reads = λ s. note_line_read s c.words.ensures.reads (c.if-is_ahead.ensures.0 refl) c.read_note.ensures.reads;
}

pub returns : goal.returns
returns c = record {
  reads = λ s. debug_note_read s c.words.ensures.reads (λ ahead. no (c.if-is_ahead.ensures.1 ahead)) c.words-2.ensures.reads
      c.place-name.ensures.reads c.read_note-note.ensures.reads;
}
