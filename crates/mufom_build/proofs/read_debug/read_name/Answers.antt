use Rattle.std.proofs.Common.{[], ◌∷◌, codes, refl}
use Rattle.mufom_build_text.specs.Pieces.{position, words}
use Rattle.mufom_build.proofs.Joining.{all_few, at_last, past, position_at, row_read}
use Rattle.mufom_build.specs.Rows.{on_name}
use Rattle.mufom_build.proofs.read_debug.read_name.Goals as goal

pub returns : goal.returns
returns c = record {
  reads = λ s same. row_read s on_name _ _ (past (words (codes "name ")) c.words.ensures.reads (λ z more tail. refl)
      (past (position s.names ∷ []) (position_at same c.position.ensures.reads) (λ z more tail. refl)
      (past (words (codes " ")) c.words-2.ensures.reads (λ z more tail. refl) (at_last tt (all_few c.in_ok-name.ensures.reads)))))
      refl (λ sound. refl);
}
