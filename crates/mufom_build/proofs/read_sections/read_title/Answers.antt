use Rattle.std.proofs.Common.{codes, refl}
use Rattle.mufom_build_text.specs.Pieces.{words}
use Rattle.mufom_build.proofs.Joining.{all_few, past, and_then, as_read, row_read}
use Rattle.mufom_build.proofs.Payloads.{order_next, to_title, from_title}
use Rattle.mufom_build.specs.Rows.{on_module}
use Rattle.mufom_build.proofs.read_sections.read_title.Goals as goal

pub returns : goal.returns
returns c = record {
  reads = λ s. row_read s on_module _ _ (as_read to_title from_title (λ y. refl) (λ z. refl) (λ y. refl) (λ z few. few) (λ y few. few)
      (past (words (codes "module ")) c.words.ensures.reads (λ z more tail. refl)
      (and_then c.in_ok-name.ensures.reads (λ z more tail. tt)
      (past (words (codes " processor ")) c.words-2.ensures.reads (λ z more tail. refl)
      (and_then c.in_ok-processor.ensures.reads (λ z more tail. tt)
      (past (words (codes " maus ")) c.words-3.ensures.reads (λ z more tail. refl)
      (and_then c.small-maus.ensures.reads (λ z more tail. refl)
      (past (words (codes " order ")) c.words-4.ensures.reads (λ z more tail. order_next z more)
      (all_few c.read_order-order.ensures.reads))))))))) refl (λ sound. refl);
}
