use Rattle.std.proofs.Common.{codes, refl}
use Rattle.mufom_build_text.specs.Pieces.{words}
use Rattle.mufom_build.proofs.Joining.{past, row_read}
use Rattle.mufom_build.proofs.Numerals.{count_noted}
use Rattle.mufom_build.specs.Rows.{on_bytes}
use Rattle.mufom_build.proofs.read_loads.read_bytes.Goals as goal

pub returns : goal.returns
returns c = record {
  reads = λ s. row_read s on_bytes _ _ (past (words (codes "bytes ")) c.words.ensures.reads (λ z more tail. refl)
      (count_noted c.column-column.result c.numeral-stated.ensures.reads c.column-column.ensures.value c.column-column.ensures.positive
      c.in_ok-bytes.ensures.reads c.judge.ensures.rest c.judge.ensures.line c.judge.ensures.column c.judge.ensures.noted)) refl (λ sound. refl);
}
