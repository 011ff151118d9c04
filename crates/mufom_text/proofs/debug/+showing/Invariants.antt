use Rattle.std.proofs.Common.{◌≡◌, ◌+◌, ◌<◌, ◌^◌, drop, length, take}
use Rattle.mufom_debug.specs.Marks.{marks_of, names_after_all}
use Rattle.mufom_text.specs.Show.{mark_lines}
use Rattle.mufom_text.proofs.debug.+showing.Given as goal

abbrev pub invariant-debug_items-loop-place : goal.invariant-debug_items-loop-place
invariant-debug_items-loop-place g l = record {
  takes : g.K.Output.takes l.fn.out l.out (mark_lines l.depth l.fn.names (marks_of (take l.place l.items)));
  names : l.names ≡ names_after_all l.fn.names (marks_of (take l.place l.items));
  deep : l.depth + length (marks_of (drop l.place l.items)) < 2 ^ 32;
  few : l.names + length (marks_of (drop l.place l.items)) < 2 ^ 63;
}
