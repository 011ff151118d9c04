use Rattle.std.proofs.Common.{take, flat_map}
use Rattle.mufom_map.specs.UnusedLine.{missing_line}
use Rattle.mufom_map.proofs.unused.region_entries.Given as goal

abbrev pub invariant-loop-entry : goal.invariant-loop-entry
invariant-loop-entry g l = g.K.Output.takes l.fn.out l.out (flat_map (missing_line l.names l.position) (take l.entry-index l.region.sections))
