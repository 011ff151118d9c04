use Rattle.std.proofs.Common.{◌<◌, ◌≤◌, length}
use Rattle.mufom_build_text.specs.Reads.{Place}
use Rattle.mufom_build_text.specs.Errors.{IsSound}
use Rattle.mufom_build_text.specs.Infix.{IsBefore, IsBehind}
use Rattle.mufom_build_text.proofs.expression.Infix.whole.Given as goal

abbrev pub invariant-loop-middle : goal.invariant-loop-middle
invariant-loop-middle l = record {
  reads : (start : Place) → IsBefore start l.fn.cursor l.fn.self → IsBehind start l.cursor l.self;
  within : length l.cursor.rest ≤ length l.fn.cursor.rest;
  shorter : IsSound l.cursor → length l.cursor.rest < length l.fn.cursor.rest;
}

abbrev pub decreases-loop-middle : goal.decreases-loop-middle
decreases-loop-middle l = length l.cursor.rest
