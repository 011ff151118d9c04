use Rattle.std.proofs.Common.{refl}
use Rattle.mufom_build_text.proofs.FirstBytes.{no}
use Rattle.mufom_build.proofs.Payloads.{end_read, end_value_read}
use Rattle.mufom_build.proofs.read_debug.read_end.Goals as goal

pub returns-then-not-is_ahead : goal.returns-then-not-is_ahead
returns-then-not-is_ahead c = record { reads = λ s. end_read s c.words.ensures.reads (λ ahead. no (c.if-not-is_ahead.ensures.1 ahead)) }

pub returns : goal.returns
returns c = record {
  reads = λ s. end_value_read s c.words.ensures.reads (c.if-not-is_ahead.ensures.0 refl) c.words-2.ensures.reads
      c.in_ok-value.ensures.reads;
}
