use Rattle.std.proofs.Common.{codes, refl}
use Rattle.mufom_build_text.specs.Pieces.{words}
use Rattle.mufom_build.proofs.Joining.{all_few, at_last, past, and_then, as_read, row_read}
use Rattle.mufom_build.proofs.Payloads.{kind_next, value_next, to_field, from_field}
use Rattle.mufom_build.specs.Rows.{on_field}
use Rattle.mufom_build.proofs.read_loads.read_field.Goals as goal

pub returns : goal.returns
returns c = record {
  reads = λ s. row_read s on_field _ _ (as_read to_field from_field (λ y. refl) (λ z. refl) (λ y. refl) (λ z few. few) (λ y few. few)
      (past (words (codes "field ")) c.words.ensures.reads (λ z more tail. kind_next z.0 _ more)
      (and_then c.read_kind-kind.ensures.reads (λ z more tail. tt)
      (past (words (codes " ")) c.words-2.ensures.reads (λ z more tail. refl)
      (and_then c.small-size.ensures.reads (λ z more tail. refl)
      (past (words (codes " = ")) c.words-3.ensures.reads (λ z more tail. value_next z more)
      (at_last refl (all_few c.in_ok-value.ensures.reads)))))))) refl (λ sound. refl);
}
