use Rattle.std.proofs.Common.{◌≡◌, ◌++◌, drop}
use Rattle.std.specs.Prelude.{flat_map}
use Rattle.std.specs.List.{enumerate_from}
use Rattle.mufom_meaning.specs.Absolute.{section_loads}
use Rattle.mufom_located.proofs.loads.absolute_loads.Given as goal

abbrev pub invariant-loop-number : goal.invariant-loop-number
invariant-loop-number l =
    l.loads ++ flat_map (section_loads l.runs) (enumerate_from l.number (drop l.number l.sections))
    ≡ flat_map (section_loads l.runs) (enumerate_from 0 l.sections)
