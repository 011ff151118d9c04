use Rattle.std.proofs.Common.{codes, refl}
use Rattle.mufom_build_text.specs.Pieces.{words}
use Rattle.mufom_build.proofs.Joining.{all_few, at_last, past, and_then, row_read}
use Rattle.mufom_build.proofs.Payloads.{value_next}
use Rattle.mufom_build.specs.Rows.{on_counter}
use Rattle.mufom_build.proofs.read_loads.read_counter.Goals as goal

pub returns : goal.returns
returns c = record {
  reads = λ s. row_read s on_counter _ _ (past (words (codes "counter ")) c.words.ensures.reads (λ z more tail. refl)
      (and_then c.place-section.ensures.reads (λ z more tail. refl)
      (past (words (codes " = ")) c.words-2.ensures.reads (λ z more tail. value_next z more)
      (at_last refl (all_few c.in_ok-value.ensures.reads))))) refl (λ sound. refl);
}
