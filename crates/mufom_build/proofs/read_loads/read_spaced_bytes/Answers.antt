use Rattle.std.proofs.Common.{ℕ, ◌-◌, ◌/◌, ap, refl, ◌∙◌}
use Rattle.mufom_build_text.proofs.FirstBytes.{no}
use Rattle.mufom_build.proofs.Numerals.{no_bytes_read, spaced_read}
use Rattle.mufom_build.proofs.read_loads.read_spaced_bytes.Goals as goal

pub returns-then-is_end_ahead : goal.returns-then-is_end_ahead
returns-then-is_end_ahead c = record { reads = no_bytes_read _ c.new.ensures (c.if-is_end_ahead.ensures.0 refl) }

pub returns : goal.returns
returns c = record {
  reads = spaced_read _ (λ ended. no (c.if-is_end_ahead.ensures.1 ended)) c.words.ensures.reads c.in_ok-bytes.ensures.reads
      (ap (λ (k : ℕ). (k - c.column-first.result) / 2) c.column.ensures.value
      ∙ ap (λ (k : ℕ). (c.hex.new.self.column - k) / 2) c.column-first.ensures.value);
}
