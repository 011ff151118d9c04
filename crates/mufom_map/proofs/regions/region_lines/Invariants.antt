use Rattle.std.proofs.Common.{take}
use Rattle.mufom_text.specs.Words.{each}
use Rattle.mufom_map.specs.MapText.{region_line}
use Rattle.mufom_map.specs.Shown.{section_extents}
use Rattle.mufom_map.proofs.regions.region_lines.Given as goal

abbrev pub invariant-loop-position : goal.invariant-loop-position
invariant-loop-position g l = g.K.Output.takes l.fn.out l.out (each (region_line l.maus (section_extents l.room.sections.now)) (take l.position l.regions))
