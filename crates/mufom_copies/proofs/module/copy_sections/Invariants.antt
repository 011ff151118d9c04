use Rattle.std.proofs.Common.{◌≡◌, take}
use Rattle.mufom_copies.proofs.module.copy_sections.Given as goal

abbrev pub invariant-loop-section : goal.invariant-loop-section
invariant-loop-section l = l.copies ≡ take l.section-index l.sections
