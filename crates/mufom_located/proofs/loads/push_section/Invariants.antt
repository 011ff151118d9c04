use Rattle.std.proofs.Common.{◌≡◌, ◌++◌, take}
use Rattle.mufom_meaning.specs.Absolute.{loads_between, with_section}
use Rattle.mufom_located.specs.Opened.{opens}
use Rattle.mufom_located.proofs.loads.push_section.Given as goal

abbrev pub invariant-loop-run : goal.invariant-loop-run
invariant-loop-run l =
    (l.loads ≡ l.fn.loads ++ with_section l.section (loads_between l.section (take l.run-index l.runs) l.from l.to))
    × (l.«open» ≡ opens (loads_between l.section (take l.run-index l.runs) l.from l.to))
