use Rattle.std.proofs.Common.{◌≡◌, ◌++◌, drop}
use Rattle.mufom_prune.specs.Kept.{staying_from}
use Rattle.mufom_prune.proofs.needs.staying_sections.Given as goal

abbrev pub invariant-loop-place : goal.invariant-loop-place
invariant-loop-place l = l.all ++ staying_from l.stays l.place (drop l.place l.sections) ≡ staying_from l.stays 0 l.sections
