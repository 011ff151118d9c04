use Rattle.std.proofs.Common.{codes, refl}
use Rattle.mufom_build_text.specs.Pieces.{words}
use Rattle.mufom_build.proofs.Joining.{all_few, at_last, past, row_read}
use Rattle.mufom_build.specs.Rows.{on_repeat}
use Rattle.mufom_build.proofs.read_loads.read_repeat.Goals as goal

pub returns : goal.returns
returns c = record {
  reads = λ s. row_read s on_repeat _ _ (past (words (codes "repeat ")) c.words.ensures.reads (λ z more tail. refl)
      (at_last refl (all_few c.number.ensures.reads))) refl (λ sound. refl);
}
