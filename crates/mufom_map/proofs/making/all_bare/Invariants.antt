use Rattle.std.proofs.Common.{◌≡◌, map, take}
use Rattle.mufom_map.specs.Shown.{bare}
use Rattle.mufom_map.proofs.making.all_bare.Given as goal

abbrev pub invariant-loop-section : goal.invariant-loop-section
invariant-loop-section l = l.sections.items ≡ map bare (take l.section-index l.placed)
