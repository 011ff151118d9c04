use Rattle.std.proofs.Common.{codes, refl}
use Rattle.mufom_build_text.specs.Pieces.{words}
use Rattle.mufom_build_text.proofs.FirstBytes.{no}
use Rattle.mufom_build.proofs.NextBytes.{differs, absent_read, present_read, goes_byte, ended_byte}
use Rattle.mufom_build.proofs.Joining.{all_few, at_last, past}
use Rattle.mufom_build.proofs.read_sections.read_base.Goals as goal

pub returns-then-not-is_ahead : goal.returns-then-not-is_ahead
returns-then-not-is_ahead c = record { reads = absent_read (λ x goes. no (c.if-not-is_ahead.ensures.1 (goes_byte 98 _ goes))) refl }

pub returns : goal.returns
returns c = record {
  reads = present_read (ended_byte 98 (differs 98 32 refl) (differs 98 10 refl) (c.if-not-is_ahead.ensures.0 refl)) refl
      (past (words (codes " base ")) c.words.ensures.reads (λ z more tail. refl) (at_last refl (all_few c.number.ensures.reads)));
}
