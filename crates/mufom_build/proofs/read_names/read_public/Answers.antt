use Rattle.std.proofs.Common.{[], ◌∷◌, codes, refl}
use Rattle.mufom_build_text.specs.Pieces.{position, words}
use Rattle.mufom_build.proofs.Joining.{all_few, at_last, past, and_then, position_at, row_read}
use Rattle.mufom_build.proofs.Payloads.{value_next}
use Rattle.mufom_build.specs.Rows.{on_public}
use Rattle.mufom_build.proofs.read_names.read_public.Goals as goal

pub returns : goal.returns
returns c = record {
  reads = λ s same. row_read s on_public _ _ (past (words (codes "public ")) c.words.ensures.reads (λ z more tail. refl)
      (past (position s.publics ∷ []) (position_at same c.position.ensures.reads) (λ z more tail. refl)
      (past (words (codes " ")) c.words-2.ensures.reads (λ z more tail. refl) (and_then c.in_ok-name.ensures.reads (λ z more tail. tt)
      (past (words (codes " = ")) c.words-3.ensures.reads (λ z more tail. value_next z more)
      (at_last refl (all_few c.in_ok-value.ensures.reads))))))) refl (λ sound. refl);
}
