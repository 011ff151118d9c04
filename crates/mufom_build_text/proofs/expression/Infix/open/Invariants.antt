use Rattle.std.proofs.Common.{◌≤◌, length}
use Rattle.mufom_build_text.specs.Reads.{Place}
use Rattle.mufom_build_text.specs.Infix.{IsBefore}
use Rattle.mufom_build_text.proofs.expression.Infix.open.Given as goal

abbrev pub invariant-loop-frame : goal.invariant-loop-frame
invariant-loop-frame l = record {
  reads : (start : Place) → IsBefore start l.fn.cursor l.fn.self → IsBefore start l.cursor l.self;
  within : length l.cursor.rest ≤ length l.fn.cursor.rest;
}

abbrev pub decreases-loop-frame : goal.decreases-loop-frame
decreases-loop-frame l = length l.cursor.rest
