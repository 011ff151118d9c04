use Rattle.std.proofs.Common.{refl}
use Rattle.mufom_build_text.proofs.FirstBytes.{no}
use Rattle.mufom_build.proofs.NextBytes.{differs, absent_read, present_read, goes_byte, ended_byte}
use Rattle.mufom_build.proofs.Payloads.{weak_read}
use Rattle.mufom_build.proofs.read_names.read_weak.Goals as goal

pub returns-then-not-is_ahead : goal.returns-then-not-is_ahead
returns-then-not-is_ahead c = record { reads = absent_read (λ x goes. no (c.if-not-is_ahead.ensures.1 (goes_byte 119 _ goes))) refl }

pub returns : goal.returns
returns c = record {
  reads = present_read (ended_byte 119 (differs 119 32 refl) (differs 119 10 refl) (c.if-not-is_ahead.ensures.0 refl)) refl
      (weak_read c.words.ensures.reads c.number-size.ensures.reads c.words-2.ensures.reads c.number-default.ensures.reads);
}
