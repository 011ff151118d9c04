use Rattle.mufom_build_text.proofs.Loosely.{gap_read, moves_right}
use Rattle.mufom_build_text.proofs.cursor.Cursor.gap.Goals as goal

pub returns : goal.returns
returns c = record {
  reads = gap_read c.byte.ensures.reads c.pass_spaces.ensures.front c.pass_spaces.ensures.last
      (moves_right c.pass_spaces.ensures.line c.pass_spaces.ensures.column c.pass_spaces.ensures.within c.pass_spaces.ensures.error)
      c.pass_spaces.ensures.error;
}
