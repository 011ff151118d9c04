use Rattle.std.proofs.Common.{◌≤◌, length}
use Rattle.mufom_build_text.specs.Reads.{Place}
use Rattle.mufom_build_text.specs.Errors.{IsSound}
use Rattle.mufom_build_text.specs.Infix.{IsBehind}
use Rattle.mufom_build_text.proofs.expression.Infix.close.Given as goal

abbrev pub invariant-loop-frame : goal.invariant-loop-frame
invariant-loop-frame l = record {
  reads : (start : Place) → IsBehind start l.fn.cursor l.fn.self → IsBehind start l.cursor l.self;
  sound : IsSound l.cursor → IsSound l.fn.cursor;
  within : length l.cursor.rest ≤ length l.fn.cursor.rest;
}

abbrev pub decreases-loop-frame : goal.decreases-loop-frame
decreases-loop-frame l = length l.self.frames.items
