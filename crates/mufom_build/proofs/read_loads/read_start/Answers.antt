use Rattle.std.proofs.Common.{codes, refl}
use Rattle.mufom_build_text.specs.Pieces.{words}
use Rattle.mufom_build.proofs.Joining.{all_few, at_last, past, row_read}
use Rattle.mufom_build.proofs.Payloads.{start_next}
use Rattle.mufom_build.specs.Rows.{on_start}
use Rattle.mufom_build.proofs.read_loads.read_start.Goals as goal

pub returns : goal.returns
returns c = record {
  reads = λ s. row_read s on_start _ _ (past (words (codes "start = ")) c.words.ensures.reads (λ z more tail. start_next z more)
      (at_last refl (all_few c.in_ok-value.ensures.reads))) refl (λ sound. refl);
}
