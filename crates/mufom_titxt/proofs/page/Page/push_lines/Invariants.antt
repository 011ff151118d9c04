use Rattle.std.proofs.Common.{◌≡◌, ◌+◌, ◌*◌, ◌++◌, length, drop}
use Rattle.mufom_titxt.specs.Written.{byte_lines}
use Rattle.mufom_titxt.proofs.page.Page.push_lines.Given as goal

abbrev pub invariant-loop-i : goal.invariant-loop-i
invariant-loop-i l = record {
  text : l.self ++ byte_lines l.i (drop l.i l.bytes) ≡ l.fn.self ++ byte_lines 0 l.bytes;
  length : length l.self ≡ length l.fn.self + 3 * l.i;
}
