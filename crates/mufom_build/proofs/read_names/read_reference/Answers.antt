use Rattle.std.proofs.Common.{[], ◌∷◌, codes, refl}
use Rattle.mufom_build_text.specs.Pieces.{position, words}
use Rattle.mufom_build.proofs.Joining.{past, and_then, position_at, row_read}
use Rattle.mufom_build.specs.Rows.{on_reference}
use Rattle.mufom_build.proofs.read_names.read_reference.Goals as goal

pub returns : goal.returns
returns c = record {
  reads = λ s same. row_read s on_reference _ _ (past (words (codes "reference ")) c.words.ensures.reads (λ z more tail. refl)
      (past (position s.references ∷ []) (position_at same c.position.ensures.reads) (λ z more tail. refl)
      (past (words (codes " ")) c.words-2.ensures.reads (λ z more tail. refl) (and_then c.in_ok-name.ensures.reads (λ z more tail. tt)
      c.read_weak-weak.ensures.reads)))) refl (λ sound. refl);
}
