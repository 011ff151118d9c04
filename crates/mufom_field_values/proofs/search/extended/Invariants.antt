use Rattle.std.proofs.Common.{◌≡◌, ◌++◌, take}
use Rattle.mufom_field_values.proofs.search.extended.Given as goal

-- the sections so far
abbrev pub invariant-loop-section : goal.invariant-loop-section
invariant-loop-section l = l.all ≡ take l.section-index l.sections

-- all sections, and the commons so far
abbrev pub invariant-loop-common : goal.invariant-loop-common
invariant-loop-common l = l.all ≡ l.sections ++ l.yielded
