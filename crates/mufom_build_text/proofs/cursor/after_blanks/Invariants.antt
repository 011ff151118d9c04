use Rattle.std.proofs.Common.{◌+◌, ◌<◌, ◌≤◌, ◌^◌, length}
use Rattle.mufom_build_text.specs.Reads.{PassesBlanks}
use Rattle.mufom_build_text.proofs.cursor.after_blanks.Given as goal

abbrev pub invariant-loop-first : goal.invariant-loop-first
invariant-loop-first l = record {
  blanks : PassesBlanks l.text l.fn.from_line l.fn.from_column l.rest l.line l.column;
  line : l.line + length l.rest < 2 ^ 32;
  column : l.column + length l.rest < 2 ^ 32;
  positive : 0 < l.column;
  within : length l.rest ≤ length l.text;
}

abbrev pub decreases-loop-first : goal.decreases-loop-first
decreases-loop-first l = length l.rest
