use Rattle.std.proofs.Common.{◌≡◌, map, take}
use Rattle.mufom_titxt.specs.TextModules.{run_section}
use Rattle.mufom_titxt.proofs.module.sections.Given as goal

abbrev pub invariant-loop-run : goal.invariant-loop-run
invariant-loop-run l = l.sections ≡ map run_section (take l.run-index l.runs)
