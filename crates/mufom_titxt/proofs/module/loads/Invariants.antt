use Rattle.std.proofs.Common.{◌≡◌, ◌++◌, drop}
use Rattle.mufom_titxt.specs.TextModules.{loads_from}
use Rattle.mufom_titxt.proofs.module.loads.Given as goal

abbrev pub invariant-loop-i : goal.invariant-loop-i
invariant-loop-i l = l.loads ++ loads_from l.i (drop l.i l.runs) ≡ loads_from 0 l.runs
